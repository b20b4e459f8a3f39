-- Proves that the entries held are those of the updates of the columns held, so the room of a step can be computed from these columns.
-- Assumes nothing.
use Prim.Native.Nat.{ℕ, zero, suc, ◌<◌, ◌≤◌}
use mathlib.Core.Path.{◌≡◌, refl, ap}
use mathlib.Core.Logic.{◌↔◌, ◌≢◌}
use mathlib.Core.List.{List, [], ◌∷◌, map}
use native.Mathlib.Omega.{arith}
use lib.ListN.{length, take, drop, get_or}
use lib.Seq.{take-suc}
use Rattle.papers.specs.Tree.{t}
use Rattle.papers.specs.Room.{room_at, entries_after, rooms}
use Rattle.order_laws.specs.Entries.{entries_after_all}
use Rattle.order_laws.specs.Stack.{pushed_on, held_columns}
use Rattle.order_laws.proofs.Rooms.{entries-root, entries-update, entries-append}
use Rattle.order_laws.proofs.Steps.{column-at}
use Rattle.order_laws.proofs.Waiting.{pushed-root, pushed-update}

drop-map : (f : ℕ → ℕ) (p : ℕ) (l : List ℕ) → drop p (map f l) ≡ map f (drop p l)
drop-map f zero l = refl
drop-map f (suc p) [] = refl
drop-map f (suc p) (x ∷ l) = drop-map f p l

module _ (size pops : ℕ → ℕ) where
  -- the room of a step, from what the steps before it leave
  pub room-at-step : (entries js : List ℕ) (s : ℕ) → s < length js
      → get_or (rooms size pops entries js) s 0 ≡ room_at (pops (get_or js s 0)) (size (get_or js s 0)) (entries_after_all size pops entries (take s js))
  unfolding rooms entries_after_all
  room-at-step entries [] s h = absurd (omega arith)
  room-at-step entries (j ∷ js) zero h = refl
  room-at-step entries (j ∷ js) (suc s) h = room-at-step (entries_after (pops j) (size j) entries) js s (omega arith)

  module _ (par : ℕ → ℕ) (roots : (j : ℕ) → (size j ≡ 0) ↔ (par j ≡ 0)) where
    entries-after : (j p : ℕ) (held : List ℕ)
        → entries_after p (size j) (map (λ c. t (size c)) held) ≡ map (λ c. t (size c)) (pushed_on par j (drop p held))
    entries-after j p held = go (size j) refl
      where
        above : (q : ℕ) → par j ≡ q → size j ≢ 0 → 0 < q
        above zero e h = absurd (h ((roots j).1 e))
        above (suc q) e h = omega arith

        go : (r : ℕ) → size j ≡ r → entries_after p r (map (λ c. t (size c)) held) ≡ map (λ c. t (size c)) (pushed_on par j (drop p held))
        go zero e = rw (entries-root, pushed-root par j (drop p held) ((roots j).0 e)) (drop-map (λ c. t (size c)) p held)
        go (suc r) e =
            rw (entries-update p (suc r) _ (omega arith), pushed-update par j (drop p held) (above (par j) refl (λ z. absurd (omega arith))), e)
            (ap (λ l. t (suc r) ∷ l) (drop-map (λ c. t (size c)) p held))

    -- the entries held after s steps, from the columns held
    pub held-entries : (order : List ℕ) (s : ℕ) → s ≤ length order
        → entries_after_all size pops [] (take s order) ≡ map (λ c. t (size c)) (held_columns par pops order s)
    unfolding entries_after_all held_columns
    held-entries order zero h = refl
    held-entries order (suc s) h =
        let j = get_or order s 0 in
        rw (take-suc order s 0 (omega arith), entries-append size pops [] (take s order) (j ∷ []), held-entries order s (omega arith), column-at order s)
        (entries-after j (pops j) (held_columns par pops order s))
