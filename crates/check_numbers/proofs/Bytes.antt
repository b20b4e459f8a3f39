-- Proves how bytes are compared with a plan one by one: if the first byte agrees, the rest is compared with what follows. So bytes put behind others
-- are compared with what follows those.
-- Assumes nothing.
use Prim.Native.Nat.{ℕ, suc, ◌+◌, ◌<◌, ◌≤◌}
use mathlib.Core.List.{List, [], ◌∷◌, ◌++◌}
use mathlib.Core.Logic.{◌⊎◌, inl, inr, ◌≢◌}
use mathlib.Core.Path.{◌≡◌, refl, sym, ap, ◌∙◌}
use native.Mathlib.Numerals.{add-one}
use native.Mathlib.Omega.{arith}
use lib.Dec.{eqb}
use lib.ListN.{length, get_or, drop, drop_of_length-le}
use lib.Seq.{drop-cons}
use borrow.Author.Tests.{lt-ltb, le-ltb, eq-eqb, ne_eqb, eqb-true, eqb-false}
use Rattle.papers.specs.Numbers.{bytes_of}
use Rattle.list_laws.proofs.Tests.{Test, passes, fails, test, below_or}
use Rattle.groups.proofs.Written.{bytes_small}
use Rattle.check_numbers.specs.Matches.{match_from, not_the_key}
use Rattle.std.specs.Prelude.{Result, Ok, Err}
use Rattle.refusals.specs.declared.Fault.{Fault}

pub begins-inj : {a b : ℕ} → ◌≡◌ {A = Result ℕ Fault} (Ok a) (Ok b) → a ≡ b
begins-inj e = cc

pub begins-differs : {r : Result ℕ Fault} {next : ℕ} {fault : Fault} → r ≡ Ok next → r ≡ Err fault → ⊥
begins-differs e f = let z : ◌≡◌ {A = ℕ} 0 1 = cc in omega arith

-- ---- the first byte

module _ (b : ℕ) (bytes plan : List ℕ) (at : ℕ) where
  pub byte-there : at < length plan → get_or plan at 0 ≡ b → match_from (b ∷ bytes) plan at ≡ match_from bytes plan (at + 1)
  unfolding match_from
  byte-there h e = rw (lt-ltb at (length plan) h, eq-eqb (get_or plan at 0) b e, match_from)

  pub byte-differs : at < length plan → get_or plan at 0 ≢ b → match_from (b ∷ bytes) plan at ≡ Err (not_the_key (at + 1))
  unfolding match_from
  byte-differs h e = rw (lt-ltb at (length plan) h, ne_eqb (get_or plan at 0) b e, match_from)

  pub byte-lacks : length plan ≤ at → match_from (b ∷ bytes) plan at ≡ Err (not_the_key (at + 1))
  unfolding match_from
  byte-lacks h = rw (le-ltb at (length plan) h, match_from)

-- tests whether the plan has the byte b at `at`
pub data Byte (b : ℕ) (plan : List ℕ) (at : ℕ) : Type 0 where
  there : at < length plan → get_or plan at 0 ≡ b → Byte b plan at
  differs : at < length plan → get_or plan at 0 ≢ b → Byte b plan at
  lacks : length plan ≤ at → Byte b plan at

pub byte : (b : ℕ) (plan : List ℕ) (at : ℕ) → Byte b plan at
byte b plan at = go (below_or at (length plan)) (test (eqb (get_or plan at 0) b))
  where
    go : (at < length plan) ⊎ (length plan ≤ at) → Test (eqb (get_or plan at 0) b) → Byte b plan at
    go (inl h) (passes e) = there h (eqb-true (get_or plan at 0) b e)
    go (inl h) (fails e) = differs h (eqb-false (get_or plan at 0) b e)
    go (inr h) t = lacks h

-- ---- bytes behind others

pub bytes-begin : (a b plan : List ℕ) (at : ℕ) {k : ℕ} → match_from a plan at ≡ Ok k → match_from (a ++ b) plan at ≡ match_from b plan k
unfolding match_from
bytes-begin [] b plan at e = ap (match_from b plan) (begins-inj e)
bytes-begin (x ∷ a) b plan at {k} e = go (byte x plan at) (bytes-begin a b plan (at + 1))
  where
    go : Byte x plan at → (match_from a plan (at + 1) ≡ Ok k → match_from (a ++ b) plan (at + 1) ≡ match_from b plan k)
        → match_from (x ∷ (a ++ b)) plan at ≡ match_from b plan k
    go (there h f) ih = byte-there x (a ++ b) plan at h f ∙ ih (sym (byte-there x a plan at h f) ∙ e)
    go (differs h f) ih = absurd (begins-differs e (byte-differs x a plan at h f))
    go (lacks h) ih = absurd (begins-differs e (byte-lacks x a plan at h))

pub bytes-differ : (a b plan : List ℕ) (at : ℕ) {fault : Fault} → match_from a plan at ≡ Err fault → match_from (a ++ b) plan at ≡ Err fault
unfolding match_from
bytes-differ [] b plan at e = absurd (begins-differs refl e)
bytes-differ (x ∷ a) b plan at {fault} e = go (byte x plan at) (bytes-differ a b plan (at + 1))
  where
    go : Byte x plan at → (match_from a plan (at + 1) ≡ Err fault → match_from (a ++ b) plan (at + 1) ≡ Err fault)
        → match_from (x ∷ (a ++ b)) plan at ≡ Err fault
    go (there h f) ih = byte-there x (a ++ b) plan at h f ∙ ih (sym (byte-there x a plan at h f) ∙ e)
    go (differs h f) ih = byte-differs x (a ++ b) plan at h f ∙ sym (byte-differs x a plan at h f) ∙ e
    go (lacks h) ih = byte-lacks x (a ++ b) plan at h ∙ sym (byte-lacks x a plan at h) ∙ e

-- bytes that agree are within the plan
pub bytes_inside : (a plan : List ℕ) (at : ℕ) {k : ℕ} → at ≤ length plan → match_from a plan at ≡ Ok k → k ≤ length plan
unfolding match_from
bytes_inside [] plan at h e = omega (arith, begins-inj e)
bytes_inside (x ∷ a) plan at {k} h e = go (byte x plan at) (bytes_inside a plan (at + 1))
  where
    go : Byte x plan at → (at + 1 ≤ length plan → match_from a plan (at + 1) ≡ Ok k → k ≤ length plan) → k ≤ length plan
    go (there u f) ih = ih (omega arith) (sym (byte-there x a plan at u f) ∙ e)
    go (differs u f) ih = absurd (begins-differs e (byte-differs x a plan at u f))
    go (lacks u) ih = absurd (begins-differs e (byte-lacks x a plan at u))

-- ---- the bytes of one number

-- a number of one group is one byte
pub one_byte : (x : ℕ) (plan : List ℕ) (at : ℕ) → x < 128 → at < length plan → get_or plan at 0 ≡ x → Ok (at + 1) ≡ match_from (bytes_of x) plan at
unfolding match_from
one_byte x plan at l h e = rw (bytes_small x l) (sym (byte-there x [] plan at h e))

-- the first i bytes agree
pub record Bytes (bytes plan : List ℕ) (at i : ℕ) : Type 0 where
  pub same : match_from (drop i bytes) plan (at + i) ≡ match_from bytes plan at
  pub few : i ≤ length bytes
  pub inside : at + i ≤ length plan

pub bytes-start : (bytes plan : List ℕ) (at : ℕ) → at ≤ length plan → Bytes bytes plan at 0
bytes-start bytes plan at h =
    let e : at + 0 ≡ at = omega arith in record { same = ap (match_from bytes plan) e; few = omega arith; inside = omega arith }

module _ {bytes plan : List ℕ} {at i : ℕ} (l : Bytes bytes plan at i) where
  module _ (h : i < length bytes) where
    pub bytes-lack : length plan ≤ at + i → Err (not_the_key (at + i + 1)) ≡ match_from bytes plan at
    bytes-lack g =
        sym (byte-lacks (get_or bytes i 0) (drop (suc i) bytes) plan (at + i) g) ∙ ap (λ (x : List ℕ). match_from x plan (at + i))
        (sym (drop-cons bytes i 0 h)) ∙ l.same

    module _ (g : at + i < length plan) where
      pub bytes-other : get_or plan (at + i) 0 ≢ get_or bytes i 0 → Err (not_the_key (at + i + 1)) ≡ match_from bytes plan at
      bytes-other e =
          sym (byte-differs (get_or bytes i 0) (drop (suc i) bytes) plan (at + i) g e) ∙ ap (λ (x : List ℕ). match_from x plan (at + i))
          (sym (drop-cons bytes i 0 h)) ∙ l.same

      pub bytes-turn : get_or plan (at + i) 0 ≡ get_or bytes i 0 → Bytes bytes plan at (i + 1)
      bytes-turn e =
          let q : at + (i + 1) ≡ at + i + 1 = omega arith in
          record {
            same = rw (q, add-one) (sym (byte-there (get_or bytes i 0) (drop (suc i) bytes) plan (at + i) g e) ∙ ap
                (λ (x : List ℕ). match_from x plan (at + i)) (sym (drop-cons bytes i 0 h)) ∙ l.same);
            few = omega arith;
            inside = omega arith;
          }

  pub bytes-stop : length bytes ≤ i → Ok (at + i) ≡ match_from bytes plan at
  unfolding match_from
  bytes-stop h = rw (drop_of_length-le bytes h) at l.same
