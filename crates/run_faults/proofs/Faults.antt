-- Proves the ways out of a step's four tests, by the column and the pops that the lists hold for it.
-- Assumes nothing.
use Prim.Native.Nat.{ℕ, suc, ◌<◌, ◌≤◌}
use mathlib.Core.Path.{◌≡◌, ◌∙◌, sym}
use mathlib.Core.Logic.{◌⊎◌, inl, inr}
use mathlib.Core.Bool.{Bool, true, false, ◌&&◌}
use mathlib.Core.List.{List, []}
use native.Mathlib.Omega.{arith}
use lib.Dec.{ltb, leb}
use lib.ListN.{length, get_or, take}
use borrow.Author.Tests.{lt-ltb, le-ltb, le-leb, lt-leb}
use Rattle.papers.specs.Order.{column_at_step}
use Rattle.papers.specs.Run.{RunCall, State, rows_in_factor, pops_at, fits, fault_of_step}
use Rattle.list_laws.proofs.Tests.{below_or}
use Rattle.order_laws.proofs.Steps.{column-at}
use Rattle.run_held.specs.declared.Held.{Held}
use Rattle.run_front.specs.Column.{Column}
use Rattle.run_updates.specs.Kept.{held_in_order, state_of, run_of, factor_of}
use Rattle.run_updates.proofs.Stack.{held-length}
use Rattle.run_updates.proofs.Step.{pops-at, used, used-is}

module _ (n : ℕ) (starts rows columns pops : List ℕ) (room : ℕ) (stack : List ℕ) (held : Held) (done : ℕ) where
  abbrev call : RunCall
  call = run_of n starts rows columns pops room []

  abbrev state : State
  state = state_of held stack

  abbrev fault : ℕ
  fault = fault_of_step call (suc done) state

  -- the step's column and pops
  abbrev c : ℕ
  c = get_or columns done 0

  abbrev off : ℕ
  off = get_or pops done 0

  -- tests whether the popped rows are in the front
  abbrev inside : Bool
  inside = fits (factor_of n starts rows) c (take off (held_in_order held.count stack))

  fits-is : fits call (column_at_step columns (suc done)) (take (pops_at call (suc done)) (held_in_order held.count stack)) ≡ inside
  unfolding fits rows_in_factor
  fits-is = rw (pops-at call done, column-at columns done)

  -- there is no such column
  pub fault-low : c < 1 → 14 ≡ fault
  unfolding fault_of_step
  fault-low h = rw (column-at columns done, lt-leb 1 c h, fault_of_step)

  pub fault-high : n < c → 14 ≡ fault
  unfolding fault_of_step
  fault-high h = rw (column-at columns done, le-leb 1 c (omega arith), lt-leb c n h, fault_of_step)

  module _ (column : Column n c) where
    known : (leb 1 (column_at_step columns (suc done)) && leb (column_at_step columns (suc done)) n) ≡ true
    known = rw (column-at columns done, le-leb 1 c column.low, le-leb c n column.high)

    -- the step pops more than is held
    pub fault-few : held.count < off → 21 ≡ fault
    unfolding fault_of_step
    fault-few h = rw (known, pops-at call done, held-length stack held.count, lt-ltb held.count off h, fault_of_step)

    module _ (enough : off ≤ held.count) where
      plenty : ltb (length (held_in_order held.count stack)) (pops_at call (suc done)) ≡ false
      plenty = rw (pops-at call done, held-length stack held.count, le-ltb held.count off enough)

      -- a popped row is outside the front
      pub fault-outside : {r : Bool} → r ≡ inside → r ≡ false → 22 ≡ fault
      unfolding fault_of_step
      fault-outside e f = rw (known, plenty, fits-is, sym e ∙ f, fault_of_step)

      module _ {r : Bool} (e : r ≡ inside) (f : r ≡ true) {u : ℕ} (g : u ≡ used n starts rows columns pops stack held done) where
        -- the step needs too much room
        pub fault-over : room < u → 23 ≡ fault
        unfolding fault_of_step
        fault-over h =
            rw (known, plenty, fits-is, sym e ∙ f, used-is n starts rows columns pops stack held done room, ← g, lt-ltb room u h, fault_of_step)

        pub fault-none : u ≤ room → 0 ≡ fault
        unfolding fault_of_step
        fault-none h =
            rw (known, plenty, fits-is, sym e ∙ f, used-is n starts rows columns pops stack held done room, ← g, le-ltb room u h, fault_of_step)

  -- a step without fault has a column of 1 to n and pops no more than is held
  pub record Fine : Type 0 where
    pub column : Column n c
    pub enough : off ≤ held.count

  pub fault-zero : fault ≡ 0 → Fine
  fault-zero z = go (below_or c 1) (below_or n c) (below_or held.count off)
    where
      go : (c < 1) ⊎ (1 ≤ c) → (n < c) ⊎ (c ≤ n) → (held.count < off) ⊎ (off ≤ held.count) → Fine
      go (inl a) b d = absurd (omega (arith, fault-low a, z))
      go (inr a) (inl b) d = absurd (omega (arith, fault-high b, z))
      go (inr a) (inr b) (inl d) = absurd (omega (arith, fault-few (record { low = a; high = b }) d, z))
      go (inr a) (inr b) (inr d) = record { column = record { low = a; high = b }; enough = d }
