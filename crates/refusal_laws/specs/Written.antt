-- Defines the written part of a call that writes a key.
-- Assumes nothing.
use Rattle.std.specs.Prelude.{ℕ, List}
use Rattle.papers.specs.Analysis.{KeyCall, written_part, key_written}

-- the part of the slice that holds the key, when the call is done
abbrev pub written_key : KeyCall → List ℕ
written_key call = let whole = key_written call.job call.bytes in written_part whole.answered whole.lent
