use Rattle.std.proofs.Common.{◌≡◌, ◌∙◌, ◌∷◌, [], Some, None, length, slice_get, sym, ap, subst, arith}
use Rattle.std.proofs.lemmas.Option.{slice_get_read}
use Rattle.sudoers_line_rows.specs.View.{member_of_view}
use Rattle.sudoers_match_list.specs.Search.{alias_number_of_atom}
use Rattle.sudoers_match_list.proofs.Numbered.{number_within}
use Rattle.sudoers_tree.specs.Definition.{definitions_of_lines}
use Rattle.sudoers_undecided.specs.internal.Decided.{IsSwayOfList, matched_by, undecided_by}
use Rattle.sudoers_undecided.proofs.Deciding.{alias_member_has_sway, one_to_decide, plain_member_has_sway}
use Rattle.sudoers_undecided.proofs.decided_aliases.DecidedAliases.sway_of_member.Goals as goal

pub index-requires : goal.index-requires
index-requires c =
    let d = c.args.self.now in
    let is : alias_number_of_atom d.kind c.args.numbers.now.walk (member_of_view c.args.member.now).atom ≡ Some c.in-Some.number = sym c.find_number_of_alias_atom.ensures ∙ c.in-Some.is in
    omega (arith, number_within d.kind c.args.numbers.now.walk (member_of_view c.args.member.now).atom c.in-Some.number is, c.requires.size)

pub returns-in-Some-index : goal.returns-in-Some-index
returns-in-Some-index c =
    let d = c.args.self.now in
    let lines = c.args.numbers.now.walk in
    let m = member_of_view c.args.member.now in
    let n = c.in-Some.number in
    let is : alias_number_of_atom d.kind lines m.atom ≡ Some n = sym c.find_number_of_alias_atom.ensures ∙ c.in-Some.is in
    let at : slice_get d.sways.items n ≡ Some c.index.result.now =
    slice_get_read d.sways.items (length (definitions_of_lines lines)) n c.index.result.now (sym c.requires.size) (number_within d.kind lines m.atom n is) c.index.ensures in
    subst (IsSwayOfList d.kind lines (undecided_by d) (matched_by d) (m ∷ [])) (sym c.turn_if_negated.ensures)
    (alias_member_has_sway lines d m n c.in-Some-index.sway is (c.requires.right n c.in-Some-index.sway (at ∙ ap Some c.in-Some-index.is)))

pub returns-in-None-index : goal.returns-in-None-index
returns-in-None-index c =
    let d = c.args.self.now in
    let lines = c.args.numbers.now.walk in
    let m = member_of_view c.args.member.now in
    let n = c.in-Some.number in
    let is : alias_number_of_atom d.kind lines m.atom ≡ Some n = sym c.find_number_of_alias_atom.ensures ∙ c.in-Some.is in
    let at : slice_get d.sways.items n ≡ Some c.index.result.now =
    slice_get_read d.sways.items (length (definitions_of_lines lines)) n c.index.result.now (sym c.requires.size) (number_within d.kind lines m.atom n is) c.index.ensures in
    one_to_decide lines d m n is (at ∙ ap Some c.in-None-index.is)

pub returns-in-None : goal.returns-in-None
returns-in-None c =
    let d = c.args.self.now in
    let lines = c.args.numbers.now.walk in
    let m = member_of_view c.args.member.now in
    let is : alias_number_of_atom d.kind lines m.atom ≡ None = sym c.find_number_of_alias_atom.ensures ∙ c.in-None.is in
    subst (IsSwayOfList d.kind lines (undecided_by d) (matched_by d) (m ∷ [])) (sym c.sway_of_member.ensures) (plain_member_has_sway lines d m is)
