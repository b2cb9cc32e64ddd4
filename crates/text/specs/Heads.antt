-- The fields that words name.
use Rattle.std.specs.Prelude.{ℕ, cond, List, Some, None, codes, Option}
use Rattle.std.specs.Str.{bytes_eq}
use Rattle.packet.specs.declared.field.Field.{Field}
use Rattle.packet.specs.declared.field.Field.TheVariants.{DlSrc, DlDst, DlTyp, NwSrc, NwDst, NwProto, TpSrc, TpDst}

abbrev pub name : Field → List ℕ
name DlSrc = codes "dlsrc"
name DlDst = codes "dldst"
name DlTyp = codes "dltyp"
name NwSrc = codes "nwsrc"
name NwDst = codes "nwdst"
name NwProto = codes "nwproto"
name TpSrc = codes "tpsrc"
name TpDst = codes "tpdst"

-- the field, if the word is its name, or else what other names say
abbrev pub named_or : List ℕ → Field → Option Field → Option Field
named_or w f rest = cond (bytes_eq w (name f)) (Some f) rest

-- the field that a word names
abbrev pub named_field : List ℕ → Option Field
named_field w =
    named_or w DlSrc (named_or w DlDst (named_or w DlTyp (named_or w NwSrc
    (named_or w NwDst (named_or w NwProto (named_or w TpSrc (named_or w TpDst None)))))))
