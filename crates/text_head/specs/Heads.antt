-- Defines what is read of line 1.
-- Assumes nothing.
use Rattle.std.specs.Prelude.{ℕ, ◌≡◌, true, false, Option, None, Some, List, drop}
use Rattle.papers.specs.declared.JobHead.{JobHead}
use Rattle.papers.specs.Text.{numbers_at, head_of}
use Rattle.text_laws.specs.Grammar.{behind}
use Rattle.text_words.specs.Words.{LineTo}

-- the rest of line 1 at `at` completes this head, after the numbers read before it, and next is the place behind the line
pub record HeadAt (text : List ℕ) (read : List ℕ) (at : ℕ) (head : JobHead) (next : ℕ) : Type 0 where
  pub is : head_of (behind read (numbers_at (drop at text) 1)) ≡ record { fine = true; head = head }
  pub ends : LineTo text at next

-- the numbers read and the rest of line 1 at `at` are no head
pub record NoHead (text : List ℕ) (read : List ℕ) (at : ℕ) : Type 0 where
  pub bad : (head_of (behind read (numbers_at (drop at text) 1))).fine ≡ false

-- what the rest of line 1 at `at` tells, after the numbers read before it
abbrev pub HeadTold : List ℕ → List ℕ → ℕ → Option (JobHead × ℕ) → Type 0
HeadTold text read at (Some (head, next)) = HeadAt text read at head next
HeadTold text read at None = NoHead text read at
