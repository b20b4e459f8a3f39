-- Proves how the pops are compared: a step is at fault exactly if its pops differ from the counted children of its column.
-- Assumes nothing.
use Rattle.std.specs.Prelude.{Some, None}
use Prim.Native.Nat.{ℕ, suc, ◌+◌, ◌-◌, ◌<◌, ◌≤◌}
use mathlib.Core.Path.{◌≡◌, refl, sym, ◌∙◌}
use mathlib.Core.Logic.{◌≢◌}
use mathlib.Core.List.{List, ◌++◌}
use native.Mathlib.Omega.{arith}
use native.Mathlib.Numerals.{add-one}
use lib.ListN.{length, get_or, take, drop, get_or-append}
use lib.Seq.{length-take-le}
use borrow.Author.Tests.{eq-eqb, ne_eqb}
use Rattle.papers.specs.Lists.{least}
use Rattle.papers.specs.Order.{column_at_step}
use Rattle.list_laws.proofs.Leasts.{least-none, least-here}
use Rattle.tree.specs.Parents.{kids_in}
use Rattle.tree.specs.Laid.{ChildCounts}
use Rattle.refusals.specs.Answers.{place_if_any}
use Rattle.check_steps.proofs.Places.{no-place, place-at}
use Rattle.check_steps.specs.Steps.{Within, pops_differ}

pub record Popped (parents order pops work : List ℕ) (i : ℕ) : Type 0 where
  pub counted : (j : ℕ) → j ≤ length parents → get_or work j 0 ≡ length (kids_in parents j)
  pub none : least (pops_differ parents order pops) i ≡ 0
  pub seen : i ≤ length order

module _ (parents order pops : List ℕ) where
  -- the counts came back in the first n + 2 numbers of work
  pub popped-start : (work counts : List ℕ) → length parents + 1 < length work → length counts ≡ length (take (length parents + 2) work)
      → ChildCounts parents counts
      → Popped parents order pops (counts ++ drop (length parents + 2) work) 0
  unfolding least
  popped-start work counts h e t = record {
    counted = λ j l. get_or-append counts (drop (length parents + 2) work) 0 j
        (omega (arith, e, length-take-le (length parents + 2) work (omega arith))) ∙ t.each j l;
    none = refl;
    seen = omega arith;
  }

  module _ (within : Within (length order) order) (same : length order ≡ length parents) (work : List ℕ) (i : ℕ)
      (inv : Popped parents order pops work i) where
    pub popped-stop : length order ≤ i → None ≡ place_if_any (least (pops_differ parents order pops) (length order))
    popped-stop h = let s = inv.seen in let e : i ≡ length order = omega arith in no-place (rw e at inv.none)

    module _ (more : i < length order) where
      count : get_or work (get_or order i 0) 0 ≡ length (kids_in parents (get_or order i 0))
      count = inv.counted (get_or order i 0) (omega (arith, (within i more).1))

      pub popped-found : get_or pops i 0 ≢ get_or work (get_or order i 0) 0
          → Some (i + 1) ≡ place_if_any (least (pops_differ parents order pops) (length order))
      unfolding column_at_step
      popped-found p =
          let d : suc i - 1 ≡ i = omega arith in
          place-at (least-here (pops_differ parents order pops) i (length order) inv.none
          (rw (d, ne_eqb (get_or pops i 0) (length (kids_in parents (get_or order i 0))) (λ q. p (q ∙ sym count)))) (omega arith))

      pub popped-turn : get_or pops i 0 ≡ get_or work (get_or order i 0) 0 → Popped parents order pops work (i + 1)
      unfolding column_at_step
      popped-turn p = rw add-one (record {
        counted = inv.counted;
        none = let d : suc i - 1 ≡ i = omega arith in
            least-none (pops_differ parents order pops) i inv.none
            (rw (d, eq-eqb (get_or pops i 0) (length (kids_in parents (get_or order i 0))) (p ∙ count)));
        seen = omega arith;
      })
