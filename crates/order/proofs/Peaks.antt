-- Proves that the pops, counted by the starts, are the numbers of children, and that the pass over the steps and pops finds the peak of the order.
-- Assumes nothing.
use Prim.Native.Nat.{ℕ, ◌+◌, ◌<◌, ◌≤◌}
use mathlib.Core.Path.{◌≡◌, refl, ap, ◌∙◌}
use mathlib.Core.List.Memᴰ
use mathlib.Core.List.{List, [], ◌∷◌, map}
use native.Mathlib.Omega.{arith}
use lib.ListN.{length, get_or, take, length-map}
use lib.Seq.{length-take-le}
use Rattle.papers.specs.Lists.{◌∈◌, up_to}
use Rattle.papers.specs.Room.{peak_of}
use Rattle.list_laws.proofs.Members.{at_place}
use Rattle.order_laws.proofs.Orders.{ordered-length, marked-ordered}
use Rattle.room.specs.Rows.{row_count_at, row_count_in}
use Rattle.room.specs.Steps.{rows_at, pops_of_step, StepsDoable, PeakGiven, PopsGiven}
use Rattle.room.proofs.BySteps.{peak-by-steps, enough-by-steps}
use Rattle.order.specs.Given.{Given, child_count_in, order_in, StepsWritten, OrderMade}
use Rattle.order.proofs.Marked.{order-enough}
use Rattle.order.proofs.Families.{column-of, roots-all}

map_same : (f g : ℕ → ℕ) (l : List ℕ) → ((j : ℕ) → j ∈ l → f j ≡ g j) → map f l ≡ map g l
map_same f g [] h = refl
map_same f g (x ∷ l) h = rw (h x (Memᴰ.head refl)) (ap (λ r. g x ∷ r) (map_same f g l (λ j m. h j (Memᴰ.tail m))))

module _ {mark : ℕ} {parents factor : List ℕ} {order-room pops-room lent : ℕ} (given : Given mark parents factor order-room pops-room lent) where
  abbrev steps : List ℕ
  steps = order_in mark parents factor

  steps-length : length steps ≡ length parents
  steps-length = ordered-length steps (marked-ordered given.rowed.tree mark (row_count_in factor))

  in-range : (j : ℕ) → j ∈ steps → (1 ≤ j) × (j ≤ length parents)
  in-range j m = ((marked-ordered given.rowed.tree mark (row_count_in factor)).each j).0 m

  at-step : (k : ℕ) → k < length steps → (1 ≤ get_or steps k 0) × (get_or steps k 0 ≤ length parents)
  at-step k h = in-range (get_or steps k 0) (at_place steps k h)

  stepped : StepsDoable factor steps (map (child_count_in parents) steps)
  stepped = record {
    column = λ k h. let (l, u) = at-step k h in column-of given.rowed (get_or steps k 0) l u;
    enough = λ k h. enough-by-steps (row_count_in factor) (child_count_in parents) steps k h (order-enough given.rowed.tree mark (row_count_in factor)
        (roots-all given.rowed) k h);
    same = length-map steps (child_count_in parents);
    few = omega (arith, steps-length, given.columns);
  }

  pub peak-asked : {order pops : List ℕ} → order ≡ steps → pops ≡ map (child_count_in parents) steps → StepsDoable factor order pops
  peak-asked e q = rw (e, q) stepped

  -- ---- the steps written
  module _ {order work : List ℕ} (written : StepsWritten mark parents factor order work) (kept : length work ≡ lent) where
    abbrev list_starts : List ℕ
    list_starts = take (length parents + 2) work

    pub list-starts-length : length list_starts ≡ length parents + 2
    list-starts-length = length-take-le (length parents + 2) work (omega (arith, given.work-length))

    order-length : length order ≡ length parents
    order-length = ap length written.steps ∙ steps-length

    -- what counting the pops requires
    pub pops-asked : {pops : List ℕ} → length pops ≡ pops-room → PopsGiven list_starts order pops
    pops-asked room = rw written.steps (record {
      list = λ k h. record {
        known = omega (arith, at-step k h, list-starts-length);
        rise = written.starts.rise (get_or steps k 0) (at-step k h).1;
      };
      small = λ k h. omega (arith, written.starts.inside (get_or steps k 0) (at-step k h).1, given.columns);
      room = omega (arith, steps-length, given.pops_length);
    })

    module _ {pops : List ℕ} (counted : pops ≡ map (row_count_at list_starts) order) where
      pops-are : pops ≡ map (child_count_in parents) steps
      pops-are =
          counted ∙ rw written.steps
          (map_same (row_count_at list_starts) (child_count_in parents) steps (λ j m. written.starts.count j (in-range j m).1))

      -- what finding the peak requires
      pub peak-given : PeakGiven factor order pops work
      peak-given = record { stepped = peak-asked written.steps pops-are; room = omega (arith, order-length, given.work-length) }

      pub order-made : {r : ℕ} → r ≡ peak_of (rows_at factor order) (pops_of_step pops) (up_to (length order)) → OrderMade mark parents factor order pops r
      order-made found = record {
        steps = written.steps;
        counts = pops-are;
        peak-is = (rw (written.steps, pops-are) at found) ∙ peak-by-steps (row_count_in factor) (child_count_in parents) steps;
      }
