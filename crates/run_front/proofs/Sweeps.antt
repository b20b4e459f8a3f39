-- Proves how an update's rows are found in a front. The update ascends, so the front's rows before the last one found are below the next. A row is in
-- the front if it is the column or is found at its place, and so are the equal rows that follow it.
-- Assumes nothing.
use Prim.Native.Nat.{ℕ, zero, suc, ◌+◌, ◌<◌, ◌≤◌}
use mathlib.Core.Path.{◌≡◌, refl, sym, ◌∙◌}
use mathlib.Core.Logic.{◌⊎◌, inl, inr, ◌≢◌}
use mathlib.Core.Bool.{Bool, true, false}
use mathlib.Core.List.Memᴰ
use mathlib.Core.List.{List, ◌∷◌}
use native.Mathlib.Omega.{arith}
use native.Mathlib.Numerals.{add-one}
use lib.ListN.{length, get_or, drop, drop_of_length-le}
use lib.Seq.{drop-cons}
use Rattle.papers.specs.Lists.{◌∈◌, Asc, member, every}
use Rattle.list_laws.proofs.Tests.{Compare, below, level, above, compare}
use Rattle.list_laws.proofs.Members.{member-into, member-out}
use Rattle.list_laws.proofs.Every.{every-nil, every-yes, every-no}
use Rattle.run_front.specs.Search.{Bracket, Alike}
use Rattle.run_front.proofs.SameRows.{from, in-first-from, in-second-from, same_from, differ-from}
use Rattle.run_front.proofs.Places.{places-ascend, found-there, found_nowhere}

-- tests whether a row is in the front
abbrev pub in_front : ℕ → List ℕ → ℕ → Bool
in_front column rows i = member i (column ∷ rows)

-- the first i rows of the update are in the front, and the front's rows before `found` are below the next
pub record Swept (column : ℕ) (rows update : List ℕ) (found i : ℕ) : Type 0 where
  pub within : found ≤ length rows
  pub before : i < length update → (k : ℕ) → k < found → get_or rows k 0 < get_or update i 0
  pub same : every (in_front column rows) (drop i update) ≡ every (in_front column rows) update

pub swept-start : (column : ℕ) (rows update : List ℕ) → Swept column rows update 0 0
swept-start column rows update = record { within = omega arith; before = λ h k l. absurd (omega arith); same = refl }

module _ {column : ℕ} {rows update : List ℕ} {found i : ℕ} (s : Swept column rows update found i) where
  -- all rows are passed
  pub swept-end : length update ≤ i → true ≡ every (in_front column rows) update
  swept-end h = sym (every-nil (in_front column rows)) ∙ (rw (drop_of_length-le update h) at s.same)

  module _ (h : i < length update) where
    next : drop i update ≡ get_or update i 0 ∷ drop (i + 1) update
    next = rw add-one (drop-cons update i 0 h)

    -- the search for the next row begins at `found`
    pub to-seek : Bracket rows (get_or update i 0) found (length rows)
    to-seek = record { rising = s.within; within = omega arith; before = s.before h; behind = λ k l u. absurd (omega arith) }

    goes_on : in_front column rows (get_or update i 0) ≡ true → every (in_front column rows) (drop (i + 1) update) ≡ every (in_front column rows) update
    goes_on e = sym (every-yes (in_front column rows) (get_or update i 0) (drop (i + 1) update) e) ∙ (rw (← next) s.same)

    module _ (ascending : Asc 0 update) where
      -- the row is the column
      pub swept-column : get_or update i 0 ≡ column → Swept column rows update found (i + 1)
      swept-column e = record {
        within = s.within;
        before = λ l k q. omega (arith, s.before h k q, places-ascend 0 update ascending i (i + 1) (omega arith) l);
        same = goes_on (member-into (get_or update i 0) (column ∷ rows) (Memᴰ.head e));
      }

      -- the row is at the next place of the front
      swept-row : found < length rows → get_or rows found 0 ≡ get_or update i 0 → Swept column rows update (found + 1) (i + 1)
      swept-row l e = record {
        within = omega arith;
        before = λ u k q. omega (arith, at_most k q, places-ascend 0 update ascending i (i + 1) (omega arith) u);
        same = goes_on (member-into (get_or update i 0) (column ∷ rows) (Memᴰ.tail (found-there rows (get_or update i 0) found l e)));
      }
        where
          at_most : (k : ℕ) → k < found + 1 → get_or rows k 0 ≤ get_or update i 0
          at_most k q = go (compare k found)
            where
              go : Compare k found → get_or rows k 0 ≤ get_or update i 0
              go (below b) = omega (arith, s.before h k b)
              go (level d) = rw d (omega arith)
              go (above b) = absurd (omega arith)

    -- its place is found
    swept-to : {place : ℕ} → Bracket rows (get_or update i 0) place place → Swept column rows update place i
    swept-to b = record { within = b.within; before = λ l. b.before; same = s.same }

    -- the row is neither
    pub swept-missing : {place : ℕ} → Asc 0 rows → get_or update i 0 ≢ column → Bracket rows (get_or update i 0) place place
        → Alike (from rows place) (from update i) 0 → false ≡ every (in_front column rows) update
    swept-missing {place} ascending other b none =
        sym (every-no (in_front column rows) (get_or update i 0) (drop (i + 1) update) (member-out (get_or update i 0) (column ∷ rows)
        (λ m. go (Memᴰ.cases_cons m))))
        ∙ (rw (← next) s.same)
      where
        go : (get_or update i 0 ≡ column) ⊎ (get_or update i 0 ∈ rows) → ⊥
        go (inl e) = other e
        go (inr m) = found_nowhere ascending b (λ l. differ-from rows update place i none l h) m

module _ {column : ℕ} {rows update : List ℕ} (ascending : Asc 0 update) where
  -- this many rows are equal at the next places
  swept-rows : {found i : ℕ} (count : ℕ) → Swept column rows update found i → found + count ≤ length rows → i + count ≤ length update
      → ((k : ℕ) → k < count → get_or rows (found + k) 0 ≡ get_or update (i + k) 0) → Swept column rows update (found + count) (i + count)
  swept-rows {found} {i} zero s l u e = let p : found + 0 ≡ found = omega arith in let q : i + 0 ≡ i = omega arith in rw (p, q) s
  swept-rows {found} {i} (suc count) s l u e =
      let p : found + suc count ≡ found + count + 1 = omega arith in
      let q : i + suc count ≡ i + count + 1 = omega arith in
      rw (p, q) (swept-row (swept-rows count s (omega arith) (omega arith) (λ k h. e k (omega arith))) (omega arith) ascending (omega arith)
      (e count (omega arith)))

  -- its place is found, and the rows that follow are equal there
  pub swept-alike : {found i place count : ℕ} → Swept column rows update found i → i < length update → Bracket rows (get_or update i 0) place place
      → Alike (from rows place) (from update i) count → Swept column rows update (place + count) (i + count)
  swept-alike {found} {i} {place} {count} s h b a =
      swept-rows
      count
      (swept-to s h b)
      (in-first-from rows update place i a b.within)
      (in-second-from rows update place i a (omega arith))
      (same_from rows update place i a)
