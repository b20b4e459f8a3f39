-- Proves how the lines of the steps follow one another: one step more writes one line more, and the updates held before a step give its room in use.
-- Assumes nothing.
use Prim.Native.Nat.{ℕ, zero, suc, ◌+◌, ◌-◌, ◌<◌, ◌≤◌, min}
use mathlib.Core.Path.{◌≡◌, refl, sym, ap, ◌∙◌}
use mathlib.Core.Logic.{◌⊎◌, inl, inr}
use mathlib.Core.List.{List, ◌∷◌, ◌++◌}
use native.Mathlib.Omega.{arith}
use native.Mathlib.Nat.{le-suc_iff}
use native.Mathlib.Numerals.{add-one}
use lib.ListN.{length, get_or, set, length-append}
use Rattle.papers.specs.Job.{column_of}
use Rattle.papers.specs.Tree.{t}
use Rattle.papers.specs.Text.{decimal_of, printed}
use Rattle.list_laws.specs.Wrote.{Wrote}
use Rattle.list_laws.proofs.Writing.{wrote-long, wrote-both, wrote_as}
use Rattle.room.specs.Rows.{RowsCounted}
use Rattle.room.specs.Steps.{StepDone}
use Rattle.room.proofs.Stacks.{Stacked, stacked-start, stacked-room, stacked-turn}
use Rattle.listing_steps.specs.Steps.{line_behind, lines_to, Printable}

module _ (order pops starts rows : List ℕ) where
  lines_next : (k : ℕ) → lines_to order pops starts rows (suc k) ≡ lines_to order pops starts rows k ++ line_behind order pops starts rows k
  unfolding lines_to
  lines_next k = refl

  length-next : (k : ℕ) → length (lines_to order pops starts rows (suc k)) ≡ length (lines_to order pops starts rows k) + length
      (line_behind order pops starts rows k)
  length-next k = ap length (lines_next k) ∙ length-append (lines_to order pops starts rows k) (line_behind order pops starts rows k)

  lines-grow : (k m : ℕ) → k ≤ m → length (lines_to order pops starts rows k) ≤ length (lines_to order pops starts rows m)
  lines-grow k zero h = let e : k ≡ 0 = omega arith in rw e (omega arith)
  lines-grow k (suc m) h = go (le-suc_iff.0 h) (λ l. lines-grow k m l)
    where
      go : (k ≤ m) ⊎ (k ≡ suc m) → (k ≤ m → length (lines_to order pops starts rows k) ≤ length (lines_to order pops starts rows m))
          → length (lines_to order pops starts rows k) ≤ length (lines_to order pops starts rows (suc m))
      go (inl l) ih = omega (arith, ih l, length-next m)
      go (inr e) ih = rw e (omega arith)

-- the first k steps are done, and their lines written
pub record Printing (order pops starts rows below₀ bytes₀ : List ℕ) (at : ℕ) (below bytes : List ℕ) (depth next k : ℕ) : Type 0 where
  pub stacked : Stacked starts order pops below₀ below depth k
  pub written : Wrote (lines_to order pops starts rows k) bytes₀ bytes at next

module _ (order pops starts rows : List ℕ) where
  pub printing-start : (entry bytes : List ℕ) (at : ℕ) → length order < length entry
      → Printing order pops starts rows (set entry 0 0) bytes at (set entry 0 0) bytes 0 at 0
  unfolding lines_to
  printing-start entry bytes at wide =
      record { stacked = stacked-start starts order pops entry wide; written = record { place = omega arith; writes = refl } }

  module _ {below₀ bytes₀ : List ℕ} {at : ℕ} {below bytes : List ℕ} {depth next k : ℕ} (inv : Printing order pops starts rows below₀ bytes₀ at below
      bytes depth next k) where
    pub printing-long : length bytes ≡ length bytes₀
    printing-long = wrote-long inv.written

    pub printing-stop : length order ≤ k → Wrote (lines_to order pops starts rows (length order)) bytes₀ bytes at next
    printing-stop h = let e : k ≡ length order = omega (arith, inv.stacked.seen) in rw (← e) inv.written

    module _ (pre : Printable order pops starts rows) (more : k < length order) {r u : ℕ} (er : RowsCounted starts (get_or order k 0) r)
        (eu : u ≡ get_or below (depth - min (get_or pops k 0) 1) 0 + t (r + 1))
      where
        -- the line that is written next
        line-is : printed (decimal_of (get_or order k 0)) (get_or pops k 0 ∷ u ∷ column_of starts rows (get_or order k 0)) ≡ line_behind order pops starts rows
            k
        unfolding line_behind
        line-is =
            ap (λ (v : ℕ). printed (decimal_of (get_or order k 0)) (get_or pops k 0 ∷ v ∷ column_of starts rows (get_or order k 0)))
            (stacked-room starts order pops inv.stacked pre.stepped more er eu)

        pub printing-fits : at + length (lines_to order pops starts rows (length order)) ≤ length bytes₀
            → next + length (printed (decimal_of (get_or order k 0)) (get_or pops k 0 ∷ u ∷ column_of starts rows (get_or order k 0))) ≤ length bytes
        printing-fits h =
            rw line-is (omega (
              arith,
              inv.written.place,
              printing-long,
              length-next order pops starts rows k,
              lines-grow order pops starts rows (suc k) (length order) (omega arith),
            ))

        pub printing-turn : {d m : ℕ} {b bytes' : List ℕ}
            → Wrote (printed (decimal_of (get_or order k 0)) (get_or pops k 0 ∷ u ∷ column_of starts rows (get_or order k 0))) bytes bytes' next m
            → StepDone below depth (get_or pops k 0) r b d
            → Printing order pops starts rows below₀ bytes₀ at b bytes' d m (k + 1)
        printing-turn p one =
            record {
              stacked = stacked-turn starts order pops inv.stacked pre.stepped more er one;
              written = rw add-one (wrote_as (lines_next order pops starts rows k) (wrote-both inv.written (wrote_as (sym line-is) p)));
            }
