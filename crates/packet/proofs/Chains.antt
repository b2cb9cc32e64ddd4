-- What `all` answers over the fields is the test of every field.
use Rattle.std.proofs.Common.{◌≡◌, Bool, ◌∙◌, Bor}
use Rattle.std.proofs.iter.Yields.{fronts}
use Rattle.std.proofs.lemmas.Iterator.{YieldsList-from_slice}
use Rattle.std.proofs.lemmas.Iterator.Search.{all_from_yields_List}
use Rattle.std.specs.Fn.{Called}
use Rattle.std.specs.Iterator.{ChecksAll}
use Rattle.std.specs.Slice.Iter.{iter_rest}
use Rattle.std.specs.declared.slice.Iter.{Iter}
use denote.Param.Members.{Mut}
use Rattle.packet.specs.Fields.{every, fields}
use Rattle.packet.specs.declared.field.Field.{Field}
use Rattle.packet.proofs.Every.{every_all}

-- where each call answers the test
pub every_of_all : {F : Type 0} {g : Mut F (Bor Field × Unit {0}) Bool} {s : Iter Field} (P : Field → Bool) (u : Iter Field) (f : F) (r : Bool) → ChecksAll fronts g s f r u → iter_rest s ≡ fields → ((x : Bor Field) (b : Bool) (q : F) → Called g f (x, tt) b q → (q ≡ f) × (b ≡ P x.now)) → r ≡ every P
every_of_all P u f r ran list each = all_from_yields_List P u f r ran (YieldsList-from_slice fields list) each ∙ every_all P
