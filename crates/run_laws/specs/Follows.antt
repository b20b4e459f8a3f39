-- Defines a run of the lists R(j) of a pattern, in an order of its columns.
-- Assumes nothing.
use Rattle.std.specs.Prelude.{◌≤◌, ◌≡◌, map, length}
use Rattle.papers.specs.Bounds.{max_columns}
use Rattle.papers.specs.Lists.{flat, starts_counted_from}
use Rattle.papers.specs.Job.{Pattern, Below}
use Rattle.papers.specs.Fill.{R}
use Rattle.papers.specs.Tree.{parent}
use Rattle.papers.specs.Order.{Ordered, pops_of}
use Rattle.papers.specs.Key.{lists_of}
use Rattle.papers.specs.Run.{RunCall}

pub record Follows (A : Pattern) (call : RunCall) : Type 0 where
  pub few : call.n ≤ max_columns
  pub below : Below call.n A
  pub starts : call.starts ≡ starts_counted_from 0 (lists_of call.n (R A))
  pub rows : call.rows ≡ flat (lists_of call.n (R A))
  pub ordered : Ordered (parent A) call.n call.columns
  pub pops : call.pops ≡ map (pops_of call.n A) call.columns
  pub long : call.n ≤ length call.stack
