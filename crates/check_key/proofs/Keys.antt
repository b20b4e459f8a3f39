-- Proves how a key is compared: edition and n, then mark and limit, then the lists, each with what follows the numbers before it.
-- Assumes nothing.
use Prim.Native.Nat.{ℕ}
use mathlib.Core.List.{List, [], ◌∷◌, ◌++◌}
use mathlib.Core.Path.{◌≡◌, refl, ◌∙◌}
use native.Mathlib.Omega.{arith}
use Rattle.papers.specs.Bounds.{edition}
use Rattle.papers.specs.Job.{Job}
use Rattle.papers.specs.Numbers.{encode}
use Rattle.papers.specs.Key.{key_numbers, key_of}
use Rattle.key.proofs.Written.{key_lists}
use Rattle.check_numbers.specs.Matches.{match_from}
use Rattle.check_key.specs.Matches.{key_match}
use Rattle.std.specs.Prelude.{Result, Ok, Err}
use Rattle.refusals.specs.declared.Fault.{Fault}
use Rattle.check_key.proofs.Answers.{key-matches}
use Rattle.check_numbers.proofs.Numbers.{Left, left-all, left-numbers, differs-numbers, left-last}

module _ (job : Job) (plan : List ℕ) where
  found : {r : Result ℕ Fault} → r ≡ match_from (encode (key_numbers job)) plan 0 → r ≡ key_match (key_of job) plan
  unfolding key_of
  found e = e ∙ key-matches (key_of job) plan

  all : Left (key_numbers job) plan 0 (key_numbers job) 0
  all = left-all (omega arith)

  numbers-are : key_numbers job ≡ (edition ∷ job.n ∷ []) ++ (job.mark ∷ job.limit ∷ key_lists job)
  unfolding key_numbers
  numbers-are = refl

  module _ {r : Result ℕ Fault} (e : r ≡ match_from (encode (edition ∷ job.n ∷ [])) plan 0) where
    pub size-differs : {fault : Fault} → r ≡ Err fault → Err fault ≡ key_match (key_of job) plan
    size-differs f = found (differs-numbers all (edition ∷ job.n ∷ []) (job.mark ∷ job.limit ∷ key_lists job) numbers-are e f)

    module _ {middle : ℕ} (f : r ≡ Ok middle) where
      pub behind-size : Left (key_numbers job) plan 0 (job.mark ∷ job.limit ∷ key_lists job) middle
      behind-size = left-numbers all (edition ∷ job.n ∷ []) (job.mark ∷ job.limit ∷ key_lists job) numbers-are e f

      module _ {q : Result ℕ Fault} (g : q ≡ match_from (encode (job.mark ∷ job.limit ∷ [])) plan middle) where
        pub mark-differs : {fault : Fault} → q ≡ Err fault → Err fault ≡ key_match (key_of job) plan
        mark-differs h = found (differs-numbers behind-size (job.mark ∷ job.limit ∷ []) (key_lists job) refl g h)

        pub behind-mark : {next : ℕ} → q ≡ Ok next → Left (key_numbers job) plan 0 (key_lists job) next
        behind-mark h = left-numbers behind-size (job.mark ∷ job.limit ∷ []) (key_lists job) refl g h

        pub lists-found : {next : ℕ} → q ≡ Ok next → {p : Result ℕ Fault} → p ≡ match_from (encode (key_lists job)) plan next
            → p ≡ key_match (key_of job) plan
        lists-found h i = found (left-last (behind-mark h) i)
