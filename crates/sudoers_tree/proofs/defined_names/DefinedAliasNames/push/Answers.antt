use Rattle.sudoers_tree.proofs.Common.{[], ap, arith, bytes_eq, false, if◌then◌else◌, is_ok, length, length-append, list_any, map, sym, zip, ◌++◌, ◌∙◌, ◌∷◌, ◌≡◌}
use Rattle.sudoers_tree.proofs.NameLists.{pushed, is_absent}
use Rattle.sudoers_tree.proofs.defined_names.DefinedAliasNames.push.Goals as goal

pub invariant_of-self-2 : goal.invariant_of-self-2
invariant_of-self-2 c =
    let key = c.in_ok-from_slice.field-0 in
    let keys = c.self.inside.names.keys in
    let absent : list_any (λ k. bytes_eq key.items k.items) keys ≡ false =
    ap (λ name. list_any (λ k. bytes_eq name k.items) keys) c.in_ok-from_slice.ensures.items ∙ is_absent (λ k. k.items) c.self.inside.names.keys c.self.inside.places.items c.args.self.now c.self.invariant c.self.view_is c.args.name.now c.requires in
    let more : c.insert.new.self.keys ≡ keys ++ key ∷ [] = c.in_ok-insert.ensures.keys ∙ ap (λ b. if b then keys else keys ++ key ∷ []) absent in
    let placed : c.push.new.self.items ≡ c.self.inside.places.items ++ c.args.place ∷ [] =
    c.push.ensures.items ∙ ap (λ r. if is_ok r then c.reserve.new.self.items ++ c.args.place ∷ [] else c.reserve.new.self.items) c.unwrap.ensures
    ∙ ap (λ ps. ps ++ c.args.place ∷ []) c.in_ok-reserve.ensures.items in
    ap length more ∙ omega (arith, length-append keys (key ∷ []), c.self.invariant, length-append c.self.inside.places.items (c.args.place ∷ [])) ∙ sym (ap length placed)

pub returns : goal.returns
returns c =
    let key = c.in_ok-from_slice.field-0 in
    let keys = c.self.inside.names.keys in
    let absent : list_any (λ k. bytes_eq key.items k.items) keys ≡ false =
    ap (λ name. list_any (λ k. bytes_eq name k.items) keys) c.in_ok-from_slice.ensures.items ∙ is_absent (λ k. k.items) c.self.inside.names.keys c.self.inside.places.items c.args.self.now c.self.invariant c.self.view_is c.args.name.now c.requires in
    let more : c.insert.new.self.keys ≡ keys ++ key ∷ [] = c.in_ok-insert.ensures.keys ∙ ap (λ b. if b then keys else keys ++ key ∷ []) absent in
    let placed : c.push.new.self.items ≡ c.self.inside.places.items ++ c.args.place ∷ [] =
    c.push.ensures.items ∙ ap (λ r. if is_ok r then c.reserve.new.self.items ++ c.args.place ∷ [] else c.reserve.new.self.items) c.unwrap.ensures
    ∙ ap (λ ps. ps ++ c.args.place ∷ []) c.in_ok-reserve.ensures.items in
    ap (zip (map (λ k. k.items) c.insert.new.self.keys)) placed
    ∙ pushed (λ k. k.items) c.self.inside.names.keys c.self.inside.places.items c.args.self.now c.self.invariant c.self.view_is c.insert.new.self.keys key c.args.place c.args.name.now more c.in_ok-from_slice.ensures.items
