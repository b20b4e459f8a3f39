-- Defines what the lent slices hold before and after the order of the columns is made in them.
-- Assumes nothing.
use Rattle.std.specs.Prelude.{ℕ, ◌+◌, ◌≤◌, ◌≡◌, List, ◌++◌, map, length, take, drop}
use Rattle.papers.specs.Lists.{zeros}
use Rattle.papers.specs.Room.{peak_of}
use Rattle.room.specs.Rows.{row_count_in}
use Rattle.order.specs.Given.{Given, child_count_in, order_in}

-- the first places of their slices hold the parents and the factor starts of n columns, and order and pops have places for the result
pub record Orderable (mark n : ℕ) (parents order pops starts work : List ℕ) : Type 0 where
  pub given : Given mark (take n parents) (take (n + 1) starts) n n (length work)
  pub parents-long : n ≤ length parents
  pub order-long : n ≤ length order
  pub pops-long : n ≤ length pops
  pub starts-long : n + 1 ≤ length starts

-- order and pops hold the order and its pops, and keep what is behind the first n places; the peak is answered, and work is zero
pub record Ordering (mark n : ℕ) (parents order₀ pops₀ starts work₀ order pops work : List ℕ) (peak : ℕ) : Type 0 where
  pub steps : order ≡ order_in mark (take n parents) (take (n + 1) starts) ++ drop n order₀
  pub counts : pops ≡ map (child_count_in (take n parents)) (order_in mark (take n parents) (take (n + 1) starts)) ++ drop n pops₀
  pub peak-is : peak ≡ peak_of (row_count_in (take (n + 1) starts)) (child_count_in (take n parents)) (order_in mark (take n parents) (take (n + 1) starts))
  pub cleared : work ≡ zeros work₀
