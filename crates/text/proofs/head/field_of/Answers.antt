-- A word with the bytes of the longest name is that name.
use Rattle.std.proofs.Common.{◌≡◌, codes, sym, ap, rules}
use Rattle.std.proofs.lemmas.Slice.Eq.{text_from_reads}
use Rattle.text.specs.Heads.{named_field}
use Rattle.text.proofs.head.field_of.Goals as goal

pub returns-in-nwproto : goal.returns-in-nwproto
returns-in-nwproto c =
    let e : c.args.word.now ≡ codes "nwproto" = text_from_reads _ _ (search rules) (search rules) in sym (ap named_field e)
