-- When two fields are the same.
use Rattle.std.proofs.Common.{◌≡◌, true, false, sym, refl}
use Rattle.std.proofs.lemmas.Bool.{eqb-false, eq-eqb, ne_eqb}
use Rattle.packet.specs.Fields.{place, same}
use Rattle.packet.specs.declared.field.Field.{Field}

pub same_self : (f : Field) → same f f ≡ true
same_self f = eq-eqb (place f) (place f) refl

pub same_sym : (f g : Field) → same f g ≡ false → same g f ≡ false
same_sym f g e = ne_eqb (place g) (place f) (λ h. eqb-false (place f) (place g) e (sym h))
