-- Proves the room in use at a step from the record, which keeps the sum of the entries held; the top update is the first of them.
-- Assumes nothing.
use Prim.Native.Nat.{ℕ, suc, ◌+◌, ◌-◌, ◌^◌, ◌<◌, ◌≤◌}
use mathlib.Core.Path.{◌≡◌, refl, ◌∙◌}
use mathlib.Core.List.{List, ◌∷◌}
use native.Mathlib.Omega.{arith}
use native.Mathlib.Numerals.{add-one}
use lib.ListN.{length, get_or}
use Rattle.papers.specs.Bounds.{max_columns}
use Rattle.papers.specs.Job.{column_of}
use Rattle.papers.specs.Tree.{t}
use Rattle.papers.specs.Room.{room_at}
use Rattle.papers.specs.Run.{entries, rows_in_factor}
use Rattle.order_laws.proofs.Rooms.{room-none, room-over}
use Rattle.run_held.specs.declared.Held.{Held}
use Rattle.run_front.proofs.Columns.{column_fits}
use Rattle.run_updates.specs.Kept.{held_in_order, factor_of, FrontOver}
use Rattle.run_updates.proofs.Stack.{held-top}
use Rattle.run_updates.proofs.Entries.{total, total-cons, total-small, front-small}

entries-cons : (n : ℕ) (starts rows : List ℕ) (c : ℕ) (cs : List ℕ)
    → entries (factor_of n starts rows) (c ∷ cs) ≡ t (length (column_of starts rows c)) ∷ entries (factor_of n starts rows) cs
unfolding entries rows_in_factor
entries-cons n starts rows c cs = refl

module _ {n : ℕ} {starts rows stack : List ℕ} {held : Held} {pops c : ℕ} (over : FrontOver n starts rows stack held pops c) where
  -- the entries of the updates held
  abbrev these : List ℕ
  these = entries (factor_of n starts rows) (held_in_order held.count stack)

  -- the top update
  abbrev top : ℕ
  top = get_or stack (held.count - 1) 0

  abbrev rest : List ℕ
  rest = held_in_order (held.count - 1) stack

  these-top : 0 < held.count → these ≡ t (length (column_of starts rows top)) ∷ entries (factor_of n starts rows) rest
  these-top h = rw (held-top stack held.count h) (entries-cons n starts rows top rest)

  total-top : 0 < held.count → held.entries ≡ t (length (column_of starts rows top)) + total n starts rows rest
  total-top h = over.kept.entries-are ∙ (rw (held-top stack held.count h) (total-cons n starts rows top rest))

  -- a step pops no more than is held
  pub top_within : {u update : ℕ} → 0 < held.count → u ≡ top → update ≡ t (length (column_of starts rows u)) → update ≤ held.entries
  top_within h i e = omega (arith, rw i at e, total-top h)

  module _ {rs : List ℕ} (e : rs ≡ column_of starts rows c) where
    -- a front has few rows, so its entries fit
    pub front_fits : length rs + 1 ≤ max_columns + 1
    front_fits = rw e (omega (arith, over.tested.few, column_fits over.tested over.column))

    module _ {front : ℕ} (f : front ≡ t (length rs + 1)) where
      front-is : front ≡ t (suc (length (column_of starts rows c)))
      front-is = f ∙ (rw (e, add-one))

      pub room_fits : held.entries + front < 2 ^ 63
      unfolding t
      room_fits =
          omega (
            arith,
            front-is,
            over.kept.entries-are,
            total-small n starts rows over.tested over.kept,
            front-small n starts rows over.tested over.column,
          )

      -- without pops
      pub room-above : pops ≡ 0 → held.entries + front ≡ room_at pops (length (column_of starts rows c)) these
      room-above z = rw z (omega (arith, front-is, over.kept.entries-are, room-none (length (column_of starts rows c)) these))

      -- with pops: the front is over the top update
      pub room-on-top : {u update : ℕ} → 0 < pops → u ≡ top → update ≡ t (length (column_of starts rows u))
          → held.entries - update + front ≡ room_at pops (length (column_of starts rows c)) these
      room-on-top h i g =
          let some : 0 < held.count = omega (arith, over.enough) in
          rw (these-top some)
          (omega (
            arith,
            front-is,
            rw i at g,
            total-top some,
            room-over pops (length (column_of starts rows c)) (t (length (column_of starts rows top))) (entries (factor_of n starts rows) rest) h,
          ))
