-- Proves that comparing the key with the plan's beginning finds what refusal 11 names: the first byte that differs is at the least place that
-- differs.
-- Assumes nothing.
use Prim.Native.Nat.{ℕ, zero, suc, ◌+◌, ◌-◌, ◌<◌, ◌≤◌}
use mathlib.Core.Bool.{true, false}
use mathlib.Core.List.{List, [], ◌∷◌}
use mathlib.Core.Logic.{◌≢◌}
use mathlib.Core.Path.{◌≡◌, refl, sym, ap, ◌∙◌}
use native.Mathlib.Numerals.{add-one}
use native.Mathlib.Omega.{arith}
use lib.ListN.{length, get_or, drop, length-drop}
use borrow.Author.Tests.{le-leb, lt-leb, eq-eqb, ne_eqb}
use Rattle.papers.specs.Lists.{least}
use Rattle.papers.specs.Numbers.{differs_at}
use Rattle.list_laws.proofs.Leasts.{least-none, least-here}
use Rattle.bytes_laws.proofs.NumberReading.{Stands, stands}
use Rattle.check_numbers.specs.Matches.{match_from, not_the_key}
use Rattle.check_key.specs.Matches.{key_match}
use Rattle.std.specs.Prelude.{Result, Ok, Err}
use Rattle.refusals.specs.declared.Fault.{Fault}
use Rattle.refusals.specs.declared.Refusal.TheVariants.{NotTheKey}
use Rattle.check_numbers.proofs.Bytes.{begins-inj, begins-differs, byte-there, byte-differs, byte-lacks, Byte, there, differs}
use Rattle.check_numbers.proofs.Bytes.{lacks, byte, bytes_inside}

-- ---- what is found is what refusal 11 names

module _ (key plan : List ℕ) where
  key-begins : least (differs_at key plan) (length key) ≡ 0 → key_match key plan ≡ Ok (length key)
  unfolding key_match
  key-begins z = rw (z, key_match)

  key-differs : (p : ℕ) → least (differs_at key plan) (length key) ≡ suc p → key_match key plan ≡ Err (not_the_key (suc p))
  unfolding key_match
  key-differs p e = rw (e, key_match)

  module _ (i : ℕ) where
    same_byte : i < length plan → get_or plan i 0 ≡ get_or key i 0 → differs_at key plan (suc i) ≡ false
    unfolding differs_at
    same_byte h e =
        let q : suc i - 1 ≡ i = omega arith in rw (le-leb (suc i) (length plan) h, q, eq-eqb (get_or key i 0) (get_or plan i 0) (sym e), differs_at)

    other_byte : i < length plan → get_or plan i 0 ≢ get_or key i 0 → differs_at key plan (suc i) ≡ true
    unfolding differs_at
    other_byte h n =
        let q : suc i - 1 ≡ i = omega arith in
        rw (le-leb (suc i) (length plan) h, q, ne_eqb (get_or key i 0) (get_or plan i 0) (λ e. n (sym e)), differs_at)

    no_byte : length plan ≤ i → differs_at key plan (suc i) ≡ true
    unfolding differs_at
    no_byte h = rw (lt-leb (suc i) (length plan) (omega arith), differs_at)

  -- the rest of the key, if no byte before it differs
  rest-matches : (rest : List ℕ) (i : ℕ) → drop i key ≡ rest → i ≤ length key → least (differs_at key plan) i ≡ 0
      → match_from rest plan i ≡ key_match key plan
  unfolding match_from
  rest-matches [] i d l z =
      let e : i ≡ length key = omega (arith, ap length d, length-drop i key) in
      ap (λ k. Ok k) e ∙ sym (key-begins (rw (← e) z))
  rest-matches (b ∷ rest) i d l z = go (byte b plan i) (rest-matches rest (i + 1))
    where
      here : Stands key i b rest
      here = stands key i b rest d

      at_key : b ≡ get_or key i 0
      at_key = sym here.byte

      found : differs_at key plan (suc i) ≡ true → match_from (b ∷ rest) plan i ≡ Err (not_the_key (i + 1)) → match_from (b ∷ rest) plan i ≡ key_match key plan
      found e f = f ∙ ap (λ k. Err (not_the_key k)) (add-one i) ∙ sym (key-differs i (least-here (differs_at key plan) i (length key) z e here.there))

      go : Byte b plan i → (drop (i + 1) key ≡ rest → i + 1 ≤ length key → least (differs_at key plan) (i + 1) ≡ 0
          → match_from rest plan (i + 1) ≡ key_match key plan)
          → match_from (b ∷ rest) plan i ≡ key_match key plan
      go (there h e) ih =
          byte-there b rest plan i h e ∙ ih here.behind (omega (arith, here.there))
          (rw add-one (least-none (differs_at key plan) i z (same_byte i h (e ∙ at_key))))
      go (differs h e) ih = found (other_byte i h (λ q. e (q ∙ sym at_key))) (byte-differs b rest plan i h e)
      go (lacks h) ih = found (no_byte i h) (byte-lacks b rest plan i h)

  pub key-matches : match_from key plan 0 ≡ key_match key plan
  key-matches = rest-matches key 0 refl (omega arith) (unfold least in refl)

-- ---- from the answer

err-inj : {a b : Fault} → ◌≡◌ {A = Result ℕ Fault} (Err a) (Err b) → a ≡ b
err-inj e = cc

module _ (key plan : List ℕ) {r : Result ℕ Fault} (e : r ≡ key_match key plan) where
  -- the plan begins with the key
  pub begins-key : {next : ℕ} → r ≡ Ok next → (least (differs_at key plan) (length key) ≡ 0) × (next ≡ length key) × (next ≤ length plan)
  begins-key {next} f = go (least (differs_at key plan) (length key)) refl
    where
      go : (p : ℕ) → least (differs_at key plan) (length key) ≡ p
          → (least (differs_at key plan) (length key) ≡ 0) × (next ≡ length key) × (next ≤ length plan)
      go zero z = (z, begins-inj (sym f ∙ e ∙ key-begins key plan z), bytes_inside key plan 0 (omega arith) (key-matches key plan ∙ sym e ∙ f))
      go (suc p) z = absurd (begins-differs f (e ∙ key-differs key plan p z))

  -- refusal 11, and the place that it names
  pub differs-key : {fault : Fault} → r ≡ Err fault → (fault.refusal ≡ NotTheKey) × (least (differs_at key plan) (length key) ≡ fault.place)
      × (1 ≤ fault.place)
  differs-key {fault} f = go (least (differs_at key plan) (length key)) refl
    where
      go : (p : ℕ) → least (differs_at key plan) (length key) ≡ p
          → (fault.refusal ≡ NotTheKey) × (least (differs_at key plan) (length key) ≡ fault.place) × (1 ≤ fault.place)
      go zero z = absurd (begins-differs (e ∙ key-begins key plan z) f)
      go (suc p) z =
          let is : not_the_key (suc p) ≡ fault = err-inj (sym (key-differs key plan p z) ∙ sym e ∙ f) in
          let at : suc p ≡ fault.place = ap (λ k. k.place) is in
          (sym (ap (λ k. k.refusal) is), z ∙ at, omega arith)
