-- A packet that is being typed: one word more, and no more words.
use Rattle.std.proofs.Common.{◌≡◌, ℕ, ◌<◌, List, [], ◌∷◌, ◌++◌, map, length, get_or, set, Option, Some, None, IsSome, is_some, unwrap_or, replicate, sym, refl, ap, ◌∙◌, subst, inl, inr, arith, Ok, Err, Result, MatchResult, IsErrAnd, length-set, get_or-set_other, get_or-set_same}
use Rattle.std.proofs.Math.ListN.{get_or-map}
use Rattle.std.proofs.lemmas.List.{ext_get_or, get_or-replicate, length-map}
use Rattle.std.specs.Array.{IsMapOf}
use denote.Param.Members.{Mut, Called}
use borrow.Author.Tests.{both_ways}
use Rattle.std.specs.Char.{is_whitespace, is_not_whitespace}
use Rattle.std.specs.Str.{NoCharPasses, EmptyOrStartsWithPassing}
use Rattle.packet.specs.Fields.{Numbers, in_order, place}
use Rattle.packet.specs.Making.{Made}
use Rattle.packet.specs.Packets.{number}
use Rattle.packet.specs.declared.fault.Fault.{Fault}
use Rattle.packet.specs.declared.field.Field.{Field}
use Rattle.packet.specs.declared.packet.Packet.{Packet}
use Rattle.packet.specs.declared.field.Field.TheVariants.{DlSrc, DlDst, DlTyp, NwSrc, NwDst, NwProto, TpSrc, TpDst}
use Rattle.console.specs.Typed.{Gives, Give, Lack, Once, Describes, Adds, AddsNone, Refuses}
use Rattle.console.specs.Commands.{Because}
use Rattle.console.specs.Words.{First, Words, Begins}
use Rattle.console.specs.declared.failure.Failure.{Failure}
use Rattle.console.specs.declared.failure.Failure.TheVariants.{Told, System, Memory}
use Rattle.console.specs.declared.packets.Typed.{Typed}

-- what `split_whitespace` says of an item
pub first_of : (bs w rest : List ℕ) → (gap : List ℕ) × (bs ≡ gap ++ (w ++ rest)) × (0 < length w) × NoCharPasses is_not_whitespace gap × NoCharPasses is_whitespace w × ((more : List ℕ) × EmptyOrStartsWithPassing is_whitespace rest more) → First bs w rest
first_of bs w rest cut = record { gap = cut.0; cut = cut.1; some = cut.2; blank = cut.3; solid = cut.4; ends = cut.5 }

-- a number, or 0
abbrev pub or_zero : Option ℕ → ℕ
or_zero n = unwrap_or n 0

-- all numbers; those that have not been given are 0
abbrev pub all_numbers : Typed → List ℕ
all_numbers t = map or_zero t.numbers

-- a field's number is the one at its place
at_place : (t : Typed) (f : Field) → in_order (all_numbers t) f ≡ or_zero (get_or t.numbers (place f) None)
at_place t DlSrc = get_or-map or_zero t.numbers 0 None
at_place t DlDst = get_or-map or_zero t.numbers 1 None
at_place t DlTyp = get_or-map or_zero t.numbers 2 None
at_place t NwSrc = get_or-map or_zero t.numbers 3 None
at_place t NwDst = get_or-map or_zero t.numbers 4 None
at_place t NwProto = get_or-map or_zero t.numbers 5 None
at_place t TpSrc = get_or-map or_zero t.numbers 6 None
at_place t TpDst = get_or-map or_zero t.numbers 7 None

place_small : (f : Field) → place f < 8
place_small DlSrc = omega arith
place_small DlDst = omega arith
place_small DlTyp = omega arith
place_small NwSrc = omega arith
place_small NwDst = omega arith
place_small NwProto = omega arith
place_small TpSrc = omega arith
place_small TpDst = omega arith

abbrev pub Marked : List Field → List (Option ℕ) → Type 0
Marked [] ns = Unit {0}
Marked (f ∷ fs) ns = IsSome (get_or ns (place f) None) × Marked fs ns

some_not_none : (o : Option ℕ) → o ≡ None → IsSome o → ⊥
some_not_none o e some = both_ways _ (ap is_some e) some

-- the fields that words have named lack one that is not marked
unmarked : (fs : List Field) (ns : List (Option ℕ)) (f : Field) → Marked fs ns → get_or ns (place f) None ≡ None → Lack fs f
unmarked [] ns f marks e = tt
unmarked (g ∷ gs) ns f marks e = ((λ same. some_not_none _ (ap (λ k. get_or ns k None) same ∙ e) marks.0), unmarked gs ns f marks.1 e)

lack_parts : (fs : List Field) (f g : Field) → Lack (fs ++ (f ∷ [])) g → Lack fs g × (place f ≡ place g → ⊥)
lack_parts [] f g h = (tt, h.0)
lack_parts (x ∷ xs) f g h = let more = lack_parts xs f g h.1 in ((h.0, more.0), more.1)

lack_more : (fs : List Field) (f g : Field) → Lack fs g → (place f ≡ place g → ⊥) → Lack (fs ++ (f ∷ [])) g
lack_more [] f g h other = (other, tt)
lack_more (x ∷ xs) f g h other = (h.0, lack_more xs f g h.1 other)

once_more : (fs : List Field) (f : Field) → Once fs → Lack fs f → Once (fs ++ (f ∷ []))
once_more [] f once new = (tt, tt)
once_more (x ∷ xs) f once new = (lack_more xs f x once.0 (λ e. new.0 (sym e)), once_more xs f once.1 new.1)

give_more : (ws : List (List ℕ)) (fs : List Field) (w : List ℕ) (f : Field) (m n : Numbers) → ((g : Field) → (place g ≡ place f → ⊥) → n g ≡ m g) → Lack fs f → Gives w f (n f) → Give ws fs m → Give (ws ++ (w ∷ [])) (fs ++ (f ∷ [])) n
give_more [] [] w f m n same new one all = (one, tt)
give_more [] (x ∷ xs) w f m n same new one all = absurd all
give_more (v ∷ ws) [] w f m n same new one all = absurd all
give_more (v ∷ ws) (x ∷ xs) w f m n same new one all =
    (subst (λ k. Gives v x k) (sym (same x new.0)) all.0, give_more ws xs w f m n same new.1 one all.1)

marked_more : (fs : List Field) (ns : List (Option ℕ)) (f : Field) (n : ℕ) → length ns ≡ 8 → Lack fs f → Marked fs ns → Marked (fs ++ (f ∷ [])) (set ns (place f) (Some n))
marked_more [] ns f n whole new marks = (ap is_some (get_or-set_same ns (place f) (Some n) None (omega (arith, place_small f))), tt)
marked_more (x ∷ xs) ns f n whole new marks =
    (ap is_some (get_or-set_other ns (place f) (place x) (Some n) None new.0) ∙ marks.0, marked_more xs ns f n whole new.1 marks.1)

begins_more : (text rest w next : List ℕ) (ws : List (List ℕ)) → Begins text ws rest → First rest w next → Begins text (ws ++ (w ∷ [])) next
begins_more text rest w next [] e first = (next, subst (λ l. First l w next) e first, refl)
begins_more text rest w next (v ∷ ws) h first = (h.0, h.1, begins_more h.0 rest w next ws h.2 first)

begins_all : (text rest : List ℕ) (ws : List (List ℕ)) → Begins text ws rest → Words rest [] → Words text ws
begins_all text rest [] e none = subst (λ l. Words l []) e none
begins_all text rest (v ∷ ws) h none = (h.0, h.1, begins_all h.0 rest ws h.2 none)

-- the words of a text before its rest have given their numbers
pub record Sofar (text rest : List ℕ) (t : Typed) : Type 0 where
  pub seen : List (List ℕ)
  pub fields : List Field
  pub given : Give seen fields (in_order (all_numbers t))
  pub marked : Marked fields t.numbers
  pub once : Once fields
  pub unseen : (f : Field) → Lack fields f → get_or t.numbers (place f) None ≡ None
  pub begins : Begins text seen rest
  pub eight : length t.numbers ≡ 8

pub no_words : (text rest : List ℕ) (t : Typed) → t.numbers ≡ replicate 8 None → rest ≡ text → Sofar text rest t
no_words text rest t none whole = record {
  seen = [];
  fields = [];
  given = tt;
  marked = tt;
  once = tt;
  unseen = λ f _. ap (λ l. get_or l (place f) None) none ∙ get_or-replicate 8 (place f) None None (place_small f);
  begins = whole;
  eight = ap length none;
}

module _ {text rest : List ℕ} {t : Typed} (old : Sofar text rest t) where
  pub one_more : {w next : List ℕ} {u : Typed} → First rest w next → Adds w t u → Sofar text next u
  one_more {w} {next} {u} first adds =
      let f = adds.field in
      let new = unmarked old.fields t.numbers f old.marked adds.fresh in
      record {
        seen = old.seen ++ (w ∷ []);
        fields = old.fields ++ (f ∷ []);
        given = give_more old.seen old.fields w f (in_order (all_numbers t)) (in_order (all_numbers u)) others new (subst (Gives w f) (sym here) adds.gives) old.given;
        marked = subst (Marked (old.fields ++ (f ∷ []))) (sym adds.numbers) (marked_more old.fields t.numbers f adds.number old.eight new old.marked);
        once = once_more old.fields f old.once new;
        unseen = λ g h. let parts = lack_parts old.fields f g h in there g (λ e. parts.1 (sym e)) ∙ old.unseen g parts.0;
        begins = begins_more text rest w next old.seen old.begins first;
        eight = ap length adds.numbers ∙ simp length-set old.eight;
      }
    where
      there : (g : Field) → (place g ≡ place adds.field → ⊥) → get_or u.numbers (place g) None ≡ get_or t.numbers (place g) None
      there g other = ap (λ l. get_or l (place g) None) adds.numbers ∙ get_or-set_other t.numbers (place adds.field) (place g) (Some adds.number) None other

      others : (g : Field) → (place g ≡ place adds.field → ⊥) → in_order (all_numbers u) g ≡ in_order (all_numbers t) g
      others g other = at_place u g ∙ ap or_zero (there g other) ∙ sym (at_place t g)

      here : in_order (all_numbers u) adds.field ≡ adds.number
      here =
          at_place u adds.field
          ∙ ap or_zero (ap (λ l. get_or l (place adds.field) None) adds.numbers ∙ get_or-set_same t.numbers (place adds.field) (Some adds.number) None (omega (arith, old.eight, place_small adds.field)))

  pub described : {n : Numbers} → Words rest [] → n ≡ in_order (all_numbers t) → Describes text n
  described {n} none e = record {
    words = old.seen;
    fields = old.fields;
    parts = begins_all text rest old.seen old.begins none;
    given = subst (Give old.seen old.fields) (sym e) old.given;
    once = old.once;
    rest = λ f h. ap (λ m. m f) e ∙ at_place t f ∙ ap or_zero (old.unseen f h);
  }

  pub wrong_word : {w next : List ℕ} → First rest w next → (e : Failure) → AddsNone w t e → Refuses text e
  wrong_word {w} {next} first (Told line) none = inl (record {
    words = old.seen;
    fields = old.fields;
    numbers = in_order (all_numbers t);
    left = rest;
    word = w;
    rest = next;
    begins = old.begins;
    first = first;
    given = old.given;
    wrong = λ f n gives lack. some_not_none _ (old.unseen f lack) (none f n gives);
  })
  wrong_word first (System e) none = none
  wrong_word first Memory none = tt

-- the packet of the numbers that words have given, or why there is none
pub packet_told : (Post : Fault → Failure → Type 0) (text : List ℕ) (n : Numbers) (r : Result Packet Fault) (s : Result Packet Failure) → Made n r → Describes text n → MatchResult r (λ p. s ≡ Ok p) (λ e. IsErrAnd s (Post e)) → ((e : Fault) (f : Failure) → Post e f → Because (Unit {0}) f)
    → MatchResult s (λ p. Describes text (number p)) (Refuses text)
packet_told Post text n (Ok p) (Ok q) made all same why = let e : p ≡ q = cc in subst (λ m. Describes text m) (sym made.1 ∙ ap number e) all
packet_told Post text n (Ok p) (Err f) made all same why = let z : ◌≡◌ {A = ℕ} 0 1 = cc in absurd (omega arith)
packet_told Post text n (Err e) (Ok q) made all same why = absurd same
packet_told Post text n (Err e) (Err (Told line)) made all same why = inr (n, all, made.0)
packet_told Post text n (Err e) (Err (System d)) made all same why = why e (System d) same
packet_told Post text n (Err e) (Err Memory) made all same why = tt

module _ {F A B : Type 0} (g : Mut F (A × Unit {0}) B) (f : A → B) where
  -- what an array's `map` makes, where each call gives f of its item
  pub mapped : (start : F) (xs : List A) (ys : List B) (n : ℕ) (d : A) → IsMapOf g start xs ys n → length xs ≡ n → ((p : F) (x : A) (y : B) (q : F) → Called g p (x, tt) y q → y ≡ f x) → ys ≡ map f xs
  mapped start xs ys n d made whole gives =
      ext_get_or (f d) ys (map f xs) (made.long ∙ sym whole ∙ sym (length-map xs f))
      (λ i h. let here = made.at i d (f d) (omega (arith, made.long)) in gives here.0 _ _ here.1 here.2 ∙ sym (get_or-map f xs i d))
