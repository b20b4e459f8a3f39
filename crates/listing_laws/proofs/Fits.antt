-- Proves that any listing fits its slice: it has no more steps than the program takes columns and no more rows than its buffer holds, and
-- each of its numbers except the rooms has at most three digits.
-- Assumes nothing.
use Prim.Native.Nat.{ℕ, ◌+◌, ◌*◌, ◌≤◌}
use mathlib.Core.Bool.{Bool}
use mathlib.Core.List.{List, [], ◌∷◌, map}
use native.Mathlib.Omega.{arith}
use lib.Dec.{eqb}
use lib.ListN.{length, length-append}
use Rattle.papers.specs.Bounds.{max_mark, program_columns, program_factor_rows, listing_bytes}
use Rattle.papers.specs.Lists.{keep, up_to, flat}
use Rattle.papers.specs.Job.{Job, Pattern, pattern, Below}
use Rattle.papers.specs.Fill.{R}
use Rattle.papers.specs.Tree.{parent, children}
use Rattle.papers.specs.Order.{Ordered, pops_of, order_of, rooms_of, order_peak}
use Rattle.papers.specs.Key.{lists_of}
use Rattle.papers.specs.Text.{word_plan, printed, step_lines, listing_of}
use Rattle.list_laws.proofs.Keeps.{keep-from, keep-distinct}
use Rattle.list_laws.proofs.Counts.{distinct-length}
use Rattle.list_laws.proofs.UpTo.{up_to-into, up_to-distinct, length-up_to}
use Rattle.fill_laws.proofs.Fill.{R-range}
use Rattle.order_laws.proofs.Orders.{ordered-length}
use Rattle.order_laws.proofs.Patterns.{order-ordered}
use Rattle.order_laws.proofs.Peaks.{room-under-peak}
use Rattle.order_laws.proofs.RoomBounds.{ordered-peak-fits}
use Rattle.listing_laws.proofs.Parts.{distinct-flat}
use Rattle.listing_laws.proofs.Lengths.{three-short, steps-short}

-- a column has at most n children
pops-few : (n : ℕ) (A : Pattern) (j : ℕ) → pops_of n A j ≤ n
unfolding children
pops-few n A j =
    let child : ℕ → Bool = λ c. eqb (parent A c) j in
    omega (
      arith,
      distinct-length (keep child (up_to n)) (up_to n) (keep-distinct child (up_to n) (up_to-distinct n))
          (λ i m. (keep-from child (up_to n) m).0),
      length-up_to n,
    )

module _ {n : ℕ} {A : Pattern} (below : Below n A) (few : n ≤ program_columns) (rows : length (flat (lists_of n (R A))) ≤ program_factor_rows) where
  module _ (order : List ℕ) (ordered : Ordered (parent A) n order) where
    order-rows : length (flat (map (R A) order)) ≤ program_factor_rows
    unfolding lists_of
    order-rows = omega (arith, distinct-flat (R A) order (up_to n) ordered.once (λ i m. let (l, u) = (ordered.each i).0 m in up_to-into n i l u))

    -- the lines of the steps fit
    pub steps-fit : length (step_lines n A order (rooms_of n A order)) ≤ 22 * program_columns + 4 * program_factor_rows
    steps-fit =
        omega (
          arith,
          steps-short n A order (rooms_of n A order)
              (λ j m. let (l, u) = (ordered.each j).0 m in (omega arith, omega (arith, pops-few n A j), λ x k. omega (arith, R-range below j x k)))
              (λ r m. omega (arith, room-under-peak n A order r m, ordered-peak-fits below (omega arith) order ordered)),
          ordered-length order ordered,
          order-rows,
        )

-- the whole listing fits
pub listing-fits : (job : Job) → Below job.n (pattern job) → job.n ≤ program_columns → job.mark ≤ max_mark
    → length (flat (lists_of job.n (R (pattern job)))) ≤ program_factor_rows
    → length (listing_of job (order_peak job.n (pattern job) (order_of job.mark job.n (pattern job)))) ≤ listing_bytes
unfolding listing_of
listing-fits job below few marked rows =
    let n = job.n in
    let A = pattern job in
    let order = order_of job.mark n A in
    let ordered = order-ordered below job.mark in
    omega (
      arith,
      length-append (printed word_plan (n ∷ job.mark ∷ order_peak n A order ∷ [])) (step_lines n A order (rooms_of n A order)),
      three-short word_plan n job.mark (order_peak n A order) (omega arith) (omega arith) (ordered-peak-fits below (omega arith) order ordered),
      steps-fit below few rows order ordered,
    )
