-- Proves that an ascending list with as many rows as R(m + 1), each of them a row of R(m + 1), is R(m + 1).
-- Assumes nothing.
use Prim.Native.Nat.{ℕ, ◌+◌}
use mathlib.Core.Path.{◌≡◌, sym, ap, ◌∙◌}
use mathlib.Core.Logic.{◌⊎◌, inl, inr, ◌≢◌}
use mathlib.Core.Bool.{true, false}
use mathlib.Core.List.Memᴰ
use mathlib.Core.List.{List, ◌∷◌}
use native.Mathlib.Omega.{arith}
use lib.ListN.{length, get_or}
use borrow.Author.Tests.{eqb-true, eq-eqb}
use Rattle.papers.specs.Lists.{◌∈◌, Asc, member, same, every}
use Rattle.papers.specs.Job.{Pattern, column_of}
use Rattle.papers.specs.Fill.{R}
use Rattle.list_laws.proofs.Tests.{Test, passes, fails, test, true-false}
use Rattle.list_laws.proofs.Ascending.{asc-above, asc-distinct, asc-ext}
use Rattle.list_laws.proofs.Counts.{distinct-length}
use Rattle.list_laws.proofs.Members.{member-true, member-into, same_true, same_refl}
use Rattle.fill_laws.proofs.Fill.{R-asc}
use Rattle.list_laws.proofs.Every.{every-all}
use Rattle.child_lists.specs.Marks.{is_marked, Markable}
use Rattle.column_list.proofs.Gathering.{below}
use Rattle.check_marks.specs.Marked.{Counted, ListComparable}

-- two ascending lists with as many rows are equal if each row of the one is a row of the other
pub asc-whole : (b : ℕ) (xs ys : List ℕ) → Asc b xs → Asc b ys → ((i : ℕ) → i ∈ xs → i ∈ ys) → length xs ≡ length ys → xs ≡ ys
asc-whole b xs ys s t into many = asc-ext b xs ys s t into (λ i m. there i m (test (member i xs)))
  where
    there : (i : ℕ) → i ∈ ys → Test (member i xs) → i ∈ xs
    there i m (passes e) = member-true i xs e
    there i m (fails e) =
        absurd (omega (
          arith,
          distinct-length (i ∷ xs) ys ((λ k. true-false (member-into i xs k) e), asc-distinct b xs s)
              (λ k t. pick k (Memᴰ.cases_cons t)),
        ))
      where
        pick : (k : ℕ) → (k ≡ i) ⊎ (k ∈ xs) → k ∈ ys
        pick k (inl q) = rw q m
        pick k (inr t) = into k t

module _ {n m : ℕ} {A : Pattern} {w₀ w : List ℕ} {count : ℕ} (c : Counted n m A w₀ w count) (l : List ℕ) where
  -- a list with more or fewer rows
  pub not-as-many : length l ≢ count → false ≡ same l (R A (m + 1))
  not-as-many h = go (test (same l (R A (m + 1))))
    where
      go : Test (same l (R A (m + 1))) → false ≡ same l (R A (m + 1))
      go (passes e) = absurd (h (ap length (same_true l (R A (m + 1)) e) ∙ sym c.counts))
      go (fails e) = sym e

-- a list that may be the column's
module _ {n m : ℕ} {l starts rows fs fr w₀ : List ℕ} (f : ListComparable n m l starts rows fs fr w₀) where
  abbrev A : Pattern
  A = column_of starts rows

  -- work has places for the marks of its rows
  pub list-markable : {w : List ℕ} → length w ≡ length w₀ → Markable n l w
  list-markable e = record { most = f.within; long = rw e f.next.stored.work-long }

  -- a list with as many rows as are marked is the column's exactly if all its rows are marked
  pub as_many : {w : List ℕ} {count : ℕ} → Counted n m A w₀ w count → length l ≡ count → every (is_marked n (m + 1) w) l ≡ same l (R A (m + 1))
  as_many {w} c h = go (test (every (is_marked n (m + 1) w) l)) (test (same l (R A (m + 1))))
    where
      marked-in : every (is_marked n (m + 1) w) l ≡ true → (i : ℕ) → i ∈ l → i ∈ R A (m + 1)
      marked-in e i t =
          c.marks.sound i (omega (arith, asc-above (m + 1) l f.ascending t)) (eqb-true (get_or w (n + n + i) 0) (m + 1)
          ((every-all (is_marked n (m + 1) w) l).0 e i t))

      go : Test (every (is_marked n (m + 1) w) l) → Test (same l (R A (m + 1))) → every (is_marked n (m + 1) w) l ≡ same l (R A (m + 1))
      go (passes e) t =
          let is = asc-whole (m + 1) l (R A (m + 1)) f.ascending (R-asc (below f.next) (m + 1)) (marked-in e) (h ∙ c.counts) in
          e ∙ sym (ap (λ x. same x (R A (m + 1))) is ∙ same_refl (R A (m + 1)))
      go (fails e) (passes q) =
          let is = same_true l (R A (m + 1)) q in
          absurd (true-false ((every-all (is_marked n (m + 1) w) l).1 (λ i t. eq-eqb (get_or w (n + n + i) 0) (m + 1) (c.marks.all i (rw is at t)))) e)
      go (fails e) (fails q) = e ∙ sym q
