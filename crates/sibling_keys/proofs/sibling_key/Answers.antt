-- Proves that `sibling_key` computes the key, since each mark is a case of the key's definition; if W is less than the update, their difference is 0.
-- Assumes nothing.
use Rattle.std.proofs.Common.{sym, arith}
use Rattle.sibling_keys.proofs.Keys.{key-none, key_one, key-two}
use Rattle.sibling_keys.proofs.sibling_key.Goals as goal

pub returns-in-0 : goal.returns-in-0
returns-in-0 c = sym (key-none _ _ _ _ c.in-0.is)

pub returns-in-1 : goal.returns-in-1
returns-in-1 c = omega (arith, key_one _ c.args.above c.args.rows c.args.w c.in-1.is)

pub returns-in_default : goal.returns-in_default
returns-in_default c =
    omega (arith, key-two c.args.mark c.args.above c.args.rows c.args.w (λ e. omega (arith, c.in_default)) (λ e. omega (arith, c.in_default)))
