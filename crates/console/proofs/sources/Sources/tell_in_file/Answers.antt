-- A fault with its file's name.
use Rattle.std.proofs.Common.{◌≡◌, ◌++◌, vec_items, string_bytes, codes, IfOk, rules, tests}
use Rattle.std.proofs.lemmas.Result.{IfOk-weaker}
use Rattle.console.specs.Texts.{file_name}
use Rattle.packet.specs.Telling.{told, told_place}
use Rattle.console.proofs.Placing.{read_at}
use Rattle.console.proofs.sources.Sources.tell_in_file.Goals as goal

pub returns-then-len-eq1 : goal.returns-then-len-eq1
returns-then-len-eq1 c =
    let s = c.args.self.now in
    let said : IfOk c.format.result (λ line. string_bytes line ≡ told c.args.local.now ++ (codes " (" ++ (c.map_or-name.result.now ++ codes ")"))) = search rules in
    IfOk-weaker c.format.result _ _ (λ line e k at.
    let name : c.map_or-name.result.now ≡ file_name s k = read_at (λ f. string_bytes f.name) (codes "no file") (vec_items s.files) k c.args.file c.map_or-name.result.now at (search rules) in
    let spelt = rw name at e in
    search (rules, tests)) said

pub returns : goal.returns
returns c =
    let s = c.args.self.now in
    let said : IfOk c.format-2.result (λ line. string_bytes line ≡ told c.args.local.now ++ (codes " (" ++ (c.map_or-name.result.now ++ (codes "; " ++ (told_place c.args.whole.now ++ codes " of the whole text)"))))) = search rules in
    IfOk-weaker c.format-2.result _ _ (λ line e k at.
    let name : c.map_or-name.result.now ≡ file_name s k = read_at (λ f. string_bytes f.name) (codes "no file") (vec_items s.files) k c.args.file c.map_or-name.result.now at (search rules) in
    let spelt : string_bytes line ≡ told c.args.local.now ++ (codes " (" ++ (file_name s k ++ (codes "; " ++ (told_place c.args.whole.now ++ codes " of the whole text)")))) = rw name at e in
    search (rules, tests)) said
