-- Defines what the lent slices hold once the column lists are made, and what making them requires.
-- Assumes nothing.
use Rattle.std.specs.Prelude.{ℕ, suc, ◌<◌, ◌≤◌, ◌≡◌, List, map, length, drop}
use Rattle.papers.specs.Lists.{up_to, flat, starts_counted_from, zeros, then_zeros}
use Rattle.papers.specs.Job.{Pattern}
use Rattle.papers.specs.Fill.{R}
use Rattle.papers.specs.Tree.{parent}
use Rattle.papers.specs.Key.{lists_of}
use Rattle.papers.specs.Analysis.{Lent, LongEnough, fixed_lengths}
use Rattle.column_laws.specs.Tested.{Tested}

-- a tested job, and slices that are long enough for it
pub record ListableIn (n : ℕ) (starts rows : List ℕ) (lent : Lent) : Type 0 where
  pub tested : Tested n starts rows
  pub long : LongEnough (fixed_lengths n lent)

-- the slices hold the lists of all n columns, their starts and the parents, then zeros; order and pops hold zeros behind the first n places
pub record AllListed (n : ℕ) (A : Pattern) (before lent : Lent) : Type 0 where
  pub fits : length (flat (lists_of n (R A))) ≤ length before.factor_rows
  pub parents : lent.parents ≡ then_zeros (map (parent A) (up_to n)) before.parents
  pub starts : lent.factor_starts ≡ then_zeros (starts_counted_from 0 (lists_of n (R A))) before.factor_starts
  pub rows : lent.factor_rows ≡ then_zeros (flat (lists_of n (R A))) before.factor_rows
  pub order : drop n lent.order ≡ zeros (drop n before.order)
  pub pops : drop n lent.pops ≡ zeros (drop n before.pops)

-- `done` columns are done: all, or as many as fit
pub record Listing (n done : ℕ) (A : Pattern) (before lent : Lent) : Type 0 where
  pub lacks : done < n → length before.factor_rows < length (flat (lists_of (suc done) (R A)))
  pub all : n ≤ done → AllListed n A before lent
