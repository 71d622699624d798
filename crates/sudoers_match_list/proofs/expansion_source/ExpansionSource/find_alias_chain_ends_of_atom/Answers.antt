use Rattle.sudoers_match_list.proofs.Common.{AreEndsOfAliasChainOfAtom, List, MatchOption, None, Some, alias_members_of_atom, ap, arith, atom_in_tables, definitions_of_lines, get_or, length, ltb, ltb-true}
use Rattle.sudoers_match_list.proofs.Common.{number_of_definition, refl, rules, slice_get, slice_get_read, subst, sym, text_in_tables, true, ℕ, ◌∙◌, ◌≡◌, ◌≤◌}
use Rattle.sudoers_grammar.specs.declared.node.Atom.TheVariants as atom
use Rattle.sudoers_match_list.proofs.Numbered.{alias_none, number_within}
use Rattle.sudoers_match_list.proofs.Shortened.{definition_rows_are_as_many_as_definitions, shortcut_of_definition_is_chain_of_alias}
use Rattle.sudoers_match_list.proofs.expansion_source.ExpansionSource.find_alias_chain_ends_of_atom.Goals as goal

-- what `get` finds
read_at : {X : Type 0} (xs ys : List X) (i : ℕ) (x : X) → xs ≡ ys → true ≡ ltb i (length xs) → x ≡ get_or xs i x → slice_get ys i ≡ Some x
read_at xs ys i x e within is = subst (λ zs. slice_get zs i ≡ Some x) e (slice_get_read xs (length xs) i x refl (ltb-true i (length xs) (sym within)) is)

pub returns-in_err-number : goal.returns-in_err-number
returns-in_err-number c =
    let self = c.args.self.now in
    let k = c.args.kind in
    let lines = self.policy.now in
    let t = self.lines.tables.now in
    let name = text_in_tables t c.in-Alias.name in
    let not_found : c.of.result ≡ None = search rules in
    let number : number_of_definition k name (definitions_of_lines lines) ≡ None =
    ap (λ ls. number_of_definition k name (definitions_of_lines ls)) (sym c.definition_numbers.ensures) ∙ ap (λ x. number_of_definition k x (definitions_of_lines c.definition_numbers.result.now.walk)) (sym c.bytes_of_text_row.ensures) ∙ sym c.of.ensures ∙ not_found in
    let none : c.from_residual.result ≡ None = search rules in
    subst (λ r. MatchOption r (alias_members_of_atom k lines (atom_in_tables t c.args.atom) ≡ None) (AreEndsOfAliasChainOfAtom k lines t (atom_in_tables t c.args.atom))) (sym none)
    (ap (λ a. alias_members_of_atom k lines (atom_in_tables t a)) c.in-Alias.is ∙ alias_none k lines (atom.Alias name) number)

pub returns-in_err-shortcut : goal.returns-in_err-shortcut
returns-in_err-shortcut c =
    let self = c.args.self.now in
    let k = c.args.kind in
    let lines = self.policy.now in
    let name = text_in_tables self.lines.tables.now c.in-Alias.name in
    let n = c.in_ok-number.number in
    let found : c.of.result ≡ Some n = search rules in
    let number : number_of_definition k name (definitions_of_lines lines) ≡ Some n =
    ap (λ ls. number_of_definition k name (definitions_of_lines ls)) (sym c.definition_numbers.ensures) ∙ ap (λ x. number_of_definition k x (definitions_of_lines c.definition_numbers.result.now.walk)) (sym c.bytes_of_text_row.ensures) ∙ sym c.of.ensures ∙ found in
    let within = number_within k lines (atom.Alias name) n number in
    let past : length self.shortcuts.items ≤ n = search rules in
    absurd (omega (arith, within, past, self.shortcuts_are.size))

pub returns-in_err-last : goal.returns-in_err-last
returns-in_err-last c =
    let self = c.args.self.now in
    let n = c.in_ok-number.number in
    let s = c.in_ok-shortcut.shortcut.now in
    let look = c.in_ok-shortcut.ensures.lookup in
    let at : slice_get self.shortcuts.items n ≡ Some s = read_at _ _ n s c.deref.ensures.value look.0 look.1 in
    let within = (self.shortcuts_are.each n s at).within in
    let past : length self.definitions.items ≤ s.to = search rules in
    absurd (omega (arith, within, past, definition_rows_are_as_many_as_definitions self.lines.tables.now self.definitions.items self.policy.now self.definitions_are))

pub returns : goal.returns
returns c =
    let self = c.args.self.now in
    let k = c.args.kind in
    let lines = self.policy.now in
    let t = self.lines.tables.now in
    let name = text_in_tables t c.in-Alias.name in
    let n = c.in_ok-number.number in
    let found : c.of.result ≡ Some n = search rules in
    let number : number_of_definition k name (definitions_of_lines lines) ≡ Some n =
    ap (λ ls. number_of_definition k name (definitions_of_lines ls)) (sym c.definition_numbers.ensures) ∙ ap (λ x. number_of_definition k x (definitions_of_lines c.definition_numbers.result.now.walk)) (sym c.bytes_of_text_row.ensures) ∙ sym c.of.ensures ∙ found in
    let s = c.in_ok-shortcut.shortcut.now in
    let r = c.in_ok-first.first.now in
    let q = c.in_ok-last.last.now in
    let look = c.in_ok-shortcut.ensures.lookup in
    let first = c.in_ok-first.ensures.lookup in
    let last = c.in_ok-last.ensures.lookup in
    let at : slice_get self.shortcuts.items n ≡ Some s = read_at _ _ n s c.deref.ensures.value look.0 look.1 in
    let at_first : slice_get self.definitions.items n ≡ Some r = read_at _ _ n r c.deref-2.ensures.value first.0 first.1 in
    let at_last : slice_get self.definitions.items s.to ≡ Some q = read_at _ _ s.to q c.deref-3.ensures.value last.0 last.1 in
    subst (λ a. AreEndsOfAliasChainOfAtom k lines t a (record { first = r.members; last = q.members; times = s.times; negated = s.negated })) (sym (ap (atom_in_tables t) c.in-Alias.is))
    (shortcut_of_definition_is_chain_of_alias t self.definitions.items lines self.shortcuts.items k name n s r q self.definitions_are self.shortcuts_are number at at_first at_last)
