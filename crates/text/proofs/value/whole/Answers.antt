-- The width that the code asks for is the field's.
use Rattle.text.proofs.value.whole.Goals as goal

pub returns : goal.returns
returns c = cc
