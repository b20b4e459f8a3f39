-- Proves that the lists and the order made in the lent slices are those of the job's plan, each followed by zeros: the tree and the rows that the
-- order was made from are the pattern's (Ties).
-- Assumes nothing.
use Prim.Native.Nat.{ℕ, suc, ◌+◌, ◌<◌, ◌≤◌}
use mathlib.Core.Path.{◌≡◌, refl, sym, ap, ◌∙◌}
use mathlib.Core.List.{List, ◌++◌, map, map-map, map-id}
use native.Mathlib.Omega.{arith}
use lib.ListN.{length, take, drop, length-map, length-drop}
use Rattle.papers.specs.Lists.{zeros, then_zeros}
use Rattle.papers.specs.Refusals.{answer}
use Rattle.papers.specs.Job.{Job, pattern, Below}
use Rattle.papers.specs.Fill.{R}
use Rattle.papers.specs.Order.{pops_of, order_of}
use Rattle.papers.specs.Key.{lists_of}
use Rattle.papers.specs.Plan.{plan_of, plan_for}
use Rattle.papers.specs.Analysis.{Lent, holding_plan}
use Rattle.job_laws.specs.Passed.{Passed}
use Rattle.list_laws.proofs.Stores.{take-then-zeros, length-starts}
use Rattle.job_laws.proofs.Passed.{passed-below}
use Rattle.job_laws.proofs.Laid.{length-lists}
use Rattle.column_laws.proofs.Testing.{tested}
use Rattle.column_laws.proofs.Families.{length-grows}
use Rattle.rows_needed.specs.Walk.{RowsCountable}
use Rattle.order_laws.proofs.Patterns.{order-length}
use Rattle.lent.specs.Six.{six_slices}
use Rattle.lent.proofs.Sixes.{sixes}
use Rattle.lent_lists.specs.Listing.{ListableIn, AllListed, Listing}
use Rattle.lent.proofs.Alike.{Alike, long-alike}
use Rattle.lent_order.specs.Ordering.{Orderable, Ordering}
use Rattle.order.proofs.Ties.{parents_of, starts_of, length-parents, same-order, same-pops, same-peak, rowed}
use Rattle.lent_plan.specs.Made.{Plannable, Made}
use Rattle.lent_plan.proofs.Made.{made-refused}
use Rattle.lent_plan.proofs.Ways.{needed, peak_in, way-rows, way-peak, way-done}

-- once the places behind a result are cleared, zeros follow it
zeros-behind : (n : ℕ) (xs l : List ℕ) → length xs ≡ n → xs ++ zeros (drop n l) ≡ then_zeros xs l
unfolding then_zeros
zeros-behind n xs l e = rw (length-drop, e)

module _ {job : Job} {before : Lent} (g : Plannable job before) where
  passes : Passed job
  passes = g.passes

  below : Below job.n (pattern job)
  below = passed-below job passes

  pub listable-in : ListableIn job.n job.starts job.rows before
  listable-in = record { tested = tested job g.passes; long = g.long }

  module _ {done : ℕ} {mid : Lent} (listing : Listing job.n done (pattern job) before mid) (alike : Alike before mid) where
    -- parents and work are long enough to count the rows needed in them
    pub countable : RowsCountable job.n job.starts job.rows mid.parents mid.work
    countable =
        let long = long-alike alike g.long in
        record { tested = tested job g.passes; parents-long = omega (arith, long); work-long = omega (arith, long) }

    -- 8: if not all columns are done, the rows needed exceed the slice
    pub made-rows : {count : ℕ} {after : Lent} → done < job.n → count ≡ needed job → Made job before after (answer 8 0 count)
    made-rows h e = made-refused (λ z. omega arith) (way-rows job before g.passes g.long exceeds (ap (answer 8 0) e) refl)
      where
        exceeds : length before.factor_rows < needed job
        exceeds = omega (arith, listing.lacks h, length-grows (R (pattern job)) (suc done) job.n (omega arith))

    -- ---- all columns are done

    module _ (all : job.n ≤ done) where
      abbrev n : ℕ
      n = job.n

      abbrev parents : List ℕ
      parents = parents_of n (pattern job)

      abbrev starts : List ℕ
      starts = starts_of n (pattern job)

      abbrev order : List ℕ
      order = order_of job.mark n (pattern job)

      listed : AllListed n (pattern job) before mid
      listed = listing.all all

      length-starts-of : length starts ≡ n + 1
      length-starts-of = length-starts 0 (lists_of n (R (pattern job))) ∙ ap (λ k. k + 1) (length-lists (R (pattern job)) n)

      -- their first places

      parents-first : take n mid.parents ≡ parents
      parents-first = rw listed.parents (take-then-zeros parents before.parents (length-parents below))

      starts_first : take (n + 1) mid.factor_starts ≡ starts
      starts_first = rw listed.starts (take-then-zeros starts before.factor_starts length-starts-of)

      pub orderable : Orderable job.mark n mid.parents mid.order mid.pops mid.factor_starts mid.work
      orderable =
          record {
            given = rw (parents-first, starts_first) (record {
              rowed = rowed below passes.few;
              columns = omega (arith, length-parents below, passes.few);
              marked = passes.marked;
              order-length = sym (length-parents below);
              pops_length = sym (length-parents below);
              work-length = omega (arith, length-parents below, alike.work, g.long);
            });
            parents-long = rw alike.parents (omega (arith, g.long));
            order-long = rw alike.order (omega (arith, g.long));
            pops-long = rw alike.pops (omega (arith, g.long));
            starts-long = rw alike.starts (omega (arith, g.long));
          }

      -- ---- the order is made

      module _ {steps counts work : List ℕ} {most : ℕ} (ordering : Ordering job.mark n mid.parents mid.order mid.pops mid.factor_starts
          mid.work steps counts work most) where
        peak-is : most ≡ peak_in job
        peak-is = (rw (parents-first, starts_first) at ordering.peak-is) ∙ same-peak below job.mark

        order-holds : steps ≡ then_zeros order before.order
        order-holds =
            (rw (parents-first, starts_first, listed.order, same-order below job.mark) at ordering.steps)
            ∙ zeros-behind n order before.order (order-length below job.mark)

        pops-hold : counts ≡ then_zeros (map (pops_of n (pattern job)) order) before.pops
        pops-hold =
            (rw (parents-first, starts_first, listed.pops, same-pops below, same-order below job.mark) at ordering.counts)
            ∙ zeros-behind n (map (pops_of n (pattern job)) order) before.pops (length-map order (pops_of n (pattern job)) ∙ order-length below
            job.mark)

        holds : six_slices mid.parents steps counts mid.factor_starts mid.factor_rows work ≡ holding_plan job (plan_of job) before
        unfolding holding_plan plan_of plan_for
        holds =
            sixes listed.parents (order-holds ∙ ap (λ l. then_zeros l before.order) (sym (map-map _ _ order ∙ map-id order)))
            (pops-hold ∙ ap (λ l. then_zeros l before.pops) (sym (map-map _ _ order))) listed.starts listed.rows
            (ordering.cleared ∙ rw alike.work)

        -- 9
        pub made-peak : job.limit < most
            → Made job before (six_slices mid.parents steps counts mid.factor_starts mid.factor_rows work) (answer 9 0 most)
        made-peak h =
            made-refused (λ z. omega arith)
            (way-peak job before g.passes g.long listed.fits (omega (arith, peak-is)) (ap (answer 9 0) peak-is) refl)

        -- done
        pub made-done : most ≤ job.limit
            → Made job before (six_slices mid.parents steps counts mid.factor_starts mid.factor_rows work) (answer 0 0 most)
        made-done h =
            record {
              done = λ z. way-done job before g.passes g.long listed.fits (omega (arith, peak-is)) (ap (answer 0 0) peak-is) holds;
              refused = λ z. absurd (z refl);
            }
