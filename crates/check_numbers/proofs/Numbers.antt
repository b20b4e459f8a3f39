-- Proves how numbers are compared one after the other: if a number agrees, comparing the rest from the place reached gives the same answer as
-- comparing all. So the first number that differs decides.
-- Assumes nothing.
use Prim.Native.Nat.{ℕ, ◌≤◌}
use mathlib.Core.List.{List, [], ◌∷◌, ◌++◌, append-nil}
use mathlib.Core.Path.{◌≡◌, refl, sym, ap, ◌∙◌}
use lib.ListN.{length}
use Rattle.papers.specs.Numbers.{bytes_of, encode}
use Rattle.bytes_laws.proofs.Numbers.{encode-append}
use Rattle.check_numbers.specs.Matches.{match_from}
use Rattle.std.specs.Prelude.{Result, Ok, Err}
use Rattle.refusals.specs.declared.Fault.{Fault}
use Rattle.check_numbers.proofs.Bytes.{bytes-begin, bytes-differ, bytes_inside}

-- of the numbers `whole`, which are compared with the plan from `at` on, xs are left at place k
pub record Left (whole plan : List ℕ) (at : ℕ) (xs : List ℕ) (k : ℕ) : Type 0 where
  pub same : match_from (encode xs) plan k ≡ match_from (encode whole) plan at
  pub inside : k ≤ length plan

module _ {whole plan : List ℕ} {at : ℕ} where
  pub left-all : at ≤ length plan → Left whole plan at whole at
  left-all h = record { same = refl; inside = h }

  module _ {xs : List ℕ} {k : ℕ} (l : Left whole plan at xs k) where
    -- compares some bytes more
    module _ (w ys : List ℕ) (e : encode xs ≡ w ++ encode ys) {r : Result ℕ Fault} (f : r ≡ match_from w plan k) where
      left-bytes : {next : ℕ} → r ≡ Ok next → Left whole plan at ys next
      left-bytes g =
          let h = sym f ∙ g in
          record {
            same = sym (bytes-begin w (encode ys) plan k h) ∙ ap (λ (x : List ℕ). match_from x plan k) (sym e) ∙ l.same;
            inside = bytes_inside w plan k l.inside h;
          }

      differs-bytes : {fault : Fault} → r ≡ Err fault → Err fault ≡ match_from (encode whole) plan at
      differs-bytes g = sym (bytes-differ w (encode ys) plan k (sym f ∙ g)) ∙ ap (λ (x : List ℕ). match_from x plan k) (sym e) ∙ l.same

    -- compares a number more
    module _ {x : ℕ} {ys : List ℕ} (e : xs ≡ x ∷ ys) {r : Result ℕ Fault} (f : r ≡ match_from (bytes_of x) plan k) where
      pub left-number : {next : ℕ} → r ≡ Ok next → Left whole plan at ys next
      unfolding encode
      left-number = left-bytes (bytes_of x) ys (ap encode e) f

      pub differs-number : {fault : Fault} → r ≡ Err fault → Err fault ≡ match_from (encode whole) plan at
      unfolding encode
      differs-number = differs-bytes (bytes_of x) ys (ap encode e) f

    -- compares some numbers more
    module _ (zs ys : List ℕ) (e : xs ≡ zs ++ ys) {r : Result ℕ Fault} (f : r ≡ match_from (encode zs) plan k) where
      pub left-numbers : {next : ℕ} → r ≡ Ok next → Left whole plan at ys next
      left-numbers = left-bytes (encode zs) ys (ap encode e ∙ encode-append zs ys) f

      pub differs-numbers : {fault : Fault} → r ≡ Err fault → Err fault ≡ match_from (encode whole) plan at
      differs-numbers = differs-bytes (encode zs) ys (ap encode e ∙ encode-append zs ys) f

    -- compares all numbers that are left
    pub left-last : {r : Result ℕ Fault} → r ≡ match_from (encode xs) plan k → r ≡ match_from (encode whole) plan at
    left-last f = f ∙ l.same

    -- only one number is left
    pub left_one : {x : ℕ} {r : Result ℕ Fault} → xs ≡ x ∷ [] → r ≡ match_from (bytes_of x) plan k → r ≡ match_from (encode whole) plan at
    unfolding encode
    left_one {x} e f = f ∙ ap (λ (w : List ℕ). match_from w plan k) (sym (ap encode e ∙ append-nil (bytes_of x))) ∙ l.same

    -- nothing is left
    pub left-none : xs ≡ [] → Ok k ≡ match_from (encode whole) plan at
    unfolding encode match_from
    left-none e = sym (ap (λ (ys : List ℕ). match_from (encode ys) plan k) e) ∙ l.same
