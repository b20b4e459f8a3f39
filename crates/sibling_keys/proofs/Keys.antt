-- Proves the sibling key of each of the three marks, and the pass that stores the keys of a column's children.
-- Assumes nothing.
use Prim.Native.Nat.{ℕ, zero, suc, ◌+◌, ◌-◌, ◌<◌, ◌≤◌}
use mathlib.Core.Path.{◌≡◌, refl, sym, ap, ◌∙◌}
use mathlib.Core.Logic.{◌⊎◌, inl, inr, ◌≢◌}
use mathlib.Core.List.Memᴰ
use mathlib.Core.List.{List, [], ◌∷◌}
use native.Mathlib.Omega.{arith}
use native.Mathlib.Numerals.{add-one}
use lib.ListN.{length, get_or, set, take, drop, length-set, length-take}
use lib.Seq.{take-suc, take-set-le, get_or-take, get_or-drop, get_or-set_same, get_or-set_other}
use Rattle.papers.specs.Lists.{◌∈◌}
use Rattle.papers.specs.Tree.{t}
use Rattle.papers.specs.Order.{sibling_key_of}
use Rattle.list_laws.specs.Parts.{part}
use Rattle.list_laws.proofs.Members.{at_place}
use Rattle.list_laws.specs.Parts.{part}
use Rattle.list_laws.proofs.Tests.{same_or}
use Rattle.sibling_keys.specs.Kids.{Keyable}

-- ---- the marks

pub key-none : (mark above rows w : ℕ) → mark ≡ 0 → sibling_key_of mark above rows w ≡ 0
unfolding sibling_key_of
key-none mark above rows w e = rw e refl

pub key_one : (mark above rows w : ℕ) → mark ≡ 1 → sibling_key_of mark above rows w ≡ w - t rows
unfolding sibling_key_of
key_one mark above rows w e = rw e refl

pub key-two : (mark above rows w : ℕ) → mark ≢ 0 → mark ≢ 1 → sibling_key_of mark above rows w ≡ t rows
unfolding sibling_key_of
key-two zero above rows w a b = absurd (a refl)
key-two (suc zero) above rows w a b = absurd (b refl)
key-two (suc (suc m)) above rows w a b = refl

pub same_key : (mark : ℕ) {v a b r s x y : ℕ} → v ≡ sibling_key_of mark a r x → a ≡ b → r ≡ s → x ≡ y → v ≡ sibling_key_of mark b s y
same_key mark e p q h = cc

-- work has the places of a child's W and key
pub record Places (w k kid : ℕ) (work : List ℕ) : Type 0 where
  pub own : w + kid < k
  pub key : k + kid < length work

-- ---- the keys of the first i kids are stored
pub record Keying (k : ℕ) (key : ℕ → ℕ) (kids before after : List ℕ) (i : ℕ) : Type 0 where
  pub same : take k after ≡ take k before
  pub keys : (c : ℕ) → c ∈ take i kids → get_or after (k + c) 0 ≡ key c
  pub seen : i ≤ length kids
  pub long : length after ≡ length before

pub keying-start : {k : ℕ} {key : ℕ → ℕ} {kids work : List ℕ} → Keying k key kids work work 0
keying-start = record { same = refl; keys = λ c m. absurd (Memᴰ.not-nil m); seen = omega arith; long = refl }

module _ {k : ℕ} {key : ℕ → ℕ} {kids before after : List ℕ} {i : ℕ} (inv : Keying k key kids before after i) where
  -- the places before the keys are read as they were
  pub keying-reads : (w c : ℕ) → w ≤ k → w + c < k → get_or after (w + c) 0 ≡ get_or (part w k before) c 0
  keying-reads w c h b =
      sym (get_or-take k after (w + c) 0 b)
      ∙ (ap (λ l. get_or l (w + c) 0) inv.same ∙ (get_or-take k before (w + c) 0 b ∙ sym (get_or-take (k - w) (drop w before) c 0 (omega arith)
      ∙ get_or-drop w before c 0)))

  pub keying-places : {factor : List ℕ} {w j : ℕ} → Keyable factor kids j before w k → i < length kids → Places w k (get_or kids i 0) after
  keying-places {factor} {w} pre more =
      let u = pre.children.known (get_or kids i 0) (at_place kids i more) in
      record {
        own = omega (arith, length-take (k - w) (drop w before), pre.rise);
        key = omega (arith, length-take (k - w) (drop w before), pre.rise, pre.room, inv.long);
      }

  module _ (more : i < length kids) {v : ℕ} (e : v ≡ key (get_or kids i 0)) (room : k + get_or kids i 0 < length after) where
    keys-next : (c : ℕ) → (c ∈ take i kids) ⊎ (c ∈ (get_or kids i 0 ∷ [])) → (c ≡ get_or kids i 0) ⊎ (c ≢ get_or kids i 0)
        → get_or (set after (k + get_or kids i 0) v) (k + c) 0 ≡ key c
    keys-next c m (inl q) = rw q (get_or-set_same after (k + get_or kids i 0) v 0 room ∙ e)
    keys-next c (inl m) (inr q) = get_or-set_other after (k + get_or kids i 0) (k + c) v 0 (λ p. q (omega arith)) ∙ inv.keys c m
    keys-next c (inr m) (inr q) = absurd (q (Memᴰ.eq_of_singleton m))

    pub keying-turn : Keying k key kids before (set after (k + get_or kids i 0) v) (i + 1)
    keying-turn = record {
      same = take-set-le k after (k + get_or kids i 0) v (omega arith) ∙ inv.same;
      keys = λ c m. keys-next c (Memᴰ.append_cases (take i kids) (rw (add-one, take-suc kids i 0 more) at m)) (same_or c (get_or kids i 0));
      seen = omega arith;
      long = length-set after (k + get_or kids i 0) v ∙ inv.long;
    }
