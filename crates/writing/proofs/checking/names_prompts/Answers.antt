-- The tests.
-- Assumes nothing.
use Rattle.writing.proofs.checking.names_prompts.Goals as goal

pub returns : goal.returns
returns c = rw (c.kind-k.ensures.0, c.contract.ensures.0)
