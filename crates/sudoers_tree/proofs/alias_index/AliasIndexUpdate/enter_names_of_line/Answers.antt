use Rattle.sudoers_tree.proofs.Common.{Alias, Cmnd, Def, Host, IsEntryOutcome, IsIndexEntryOutcome, List, Node, Runas, User, alias_definitions_of_view, ap, definitions_in_line, entries_after_update}
use Rattle.sudoers_tree.proofs.Common.{entries_of_definitions, entries_with_definitions, index_after_update, node_of_view, refl, subst, sym, ◌∙◌}
use Rattle.sudoers_tree.proofs.Entries.{entry_outcome_is_index_entry_outcome, other_kind_keeps_its_entries, entries_of_four_kinds_are_index}
use Rattle.sudoers_tree.proofs.alias_index.AliasIndexUpdate.enter_names_of_line.Goals as goal

pub returns-in-User : goal.returns-in-User
returns-in-User c = λ before indexed.
    let defs : List Def = alias_definitions_of_view c.in-Alias.defs in
    let known = c.args.known.now in
    let names = entries_after_update known.user c.enter_names_of_definitions.new.names in
    let comes : IsEntryOutcome c.enter_names_of_definitions.result names (entries_with_definitions User c.args.line 0 (entries_of_definitions User before) defs) =
    subst (λ es. IsEntryOutcome c.enter_names_of_definitions.result names (entries_with_definitions User c.args.line 0 es defs)) (indexed User) c.enter_names_of_definitions.ensures in
    subst (λ (n : Node). IsIndexEntryOutcome c.enter_names_of_definitions.result (index_after_update known (record { user = c.enter_names_of_definitions.new.names; runas = c.args.self.now.runas; host = c.args.self.now.host; cmnd = c.args.self.now.cmnd })) before (definitions_in_line c.args.line n))
    (sym (ap node_of_view c.in-Alias.is ∙ ap (λ kind. Alias kind defs) c.in-User.is))
    (entry_outcome_is_index_entry_outcome User c.args.line before defs c.enter_names_of_definitions.result names _ comes (λ new. entries_of_four_kinds_are_index _ _
    new
    (other_kind_keeps_its_entries Runas User c.args.line before defs (entries_after_update known.runas c.args.self.now.runas) refl (indexed Runas))
    (other_kind_keeps_its_entries Host User c.args.line before defs (entries_after_update known.host c.args.self.now.host) refl (indexed Host))
    (other_kind_keeps_its_entries Cmnd User c.args.line before defs (entries_after_update known.cmnd c.args.self.now.cmnd) refl (indexed Cmnd))))

pub returns-in-Runas : goal.returns-in-Runas
returns-in-Runas c = λ before indexed.
    let defs : List Def = alias_definitions_of_view c.in-Alias.defs in
    let known = c.args.known.now in
    let names = entries_after_update known.runas c.enter_names_of_definitions-in-Runas.new.names in
    let comes : IsEntryOutcome c.enter_names_of_definitions-in-Runas.result names (entries_with_definitions Runas c.args.line 0 (entries_of_definitions Runas before) defs) =
    subst (λ es. IsEntryOutcome c.enter_names_of_definitions-in-Runas.result names (entries_with_definitions Runas c.args.line 0 es defs)) (indexed Runas) c.enter_names_of_definitions-in-Runas.ensures in
    subst (λ (n : Node). IsIndexEntryOutcome c.enter_names_of_definitions-in-Runas.result (index_after_update known (record { user = c.args.self.now.user; runas = c.enter_names_of_definitions-in-Runas.new.names; host = c.args.self.now.host; cmnd = c.args.self.now.cmnd })) before (definitions_in_line c.args.line n))
    (sym (ap node_of_view c.in-Alias.is ∙ ap (λ kind. Alias kind defs) c.in-Runas.is))
    (entry_outcome_is_index_entry_outcome Runas c.args.line before defs c.enter_names_of_definitions-in-Runas.result names _ comes (λ new. entries_of_four_kinds_are_index _ _
    (other_kind_keeps_its_entries User Runas c.args.line before defs (entries_after_update known.user c.args.self.now.user) refl (indexed User))
    new
    (other_kind_keeps_its_entries Host Runas c.args.line before defs (entries_after_update known.host c.args.self.now.host) refl (indexed Host))
    (other_kind_keeps_its_entries Cmnd Runas c.args.line before defs (entries_after_update known.cmnd c.args.self.now.cmnd) refl (indexed Cmnd))))

pub returns-in-Host : goal.returns-in-Host
returns-in-Host c = λ before indexed.
    let defs : List Def = alias_definitions_of_view c.in-Alias.defs in
    let known = c.args.known.now in
    let names = entries_after_update known.host c.enter_names_of_definitions-in-Host.new.names in
    let comes : IsEntryOutcome c.enter_names_of_definitions-in-Host.result names (entries_with_definitions Host c.args.line 0 (entries_of_definitions Host before) defs) =
    subst (λ es. IsEntryOutcome c.enter_names_of_definitions-in-Host.result names (entries_with_definitions Host c.args.line 0 es defs)) (indexed Host) c.enter_names_of_definitions-in-Host.ensures in
    subst (λ (n : Node). IsIndexEntryOutcome c.enter_names_of_definitions-in-Host.result (index_after_update known (record { user = c.args.self.now.user; runas = c.args.self.now.runas; host = c.enter_names_of_definitions-in-Host.new.names; cmnd = c.args.self.now.cmnd })) before (definitions_in_line c.args.line n))
    (sym (ap node_of_view c.in-Alias.is ∙ ap (λ kind. Alias kind defs) c.in-Host.is))
    (entry_outcome_is_index_entry_outcome Host c.args.line before defs c.enter_names_of_definitions-in-Host.result names _ comes (λ new. entries_of_four_kinds_are_index _ _
    (other_kind_keeps_its_entries User Host c.args.line before defs (entries_after_update known.user c.args.self.now.user) refl (indexed User))
    (other_kind_keeps_its_entries Runas Host c.args.line before defs (entries_after_update known.runas c.args.self.now.runas) refl (indexed Runas))
    new
    (other_kind_keeps_its_entries Cmnd Host c.args.line before defs (entries_after_update known.cmnd c.args.self.now.cmnd) refl (indexed Cmnd))))

pub returns-in-Cmnd : goal.returns-in-Cmnd
returns-in-Cmnd c = λ before indexed.
    let defs : List Def = alias_definitions_of_view c.in-Alias.defs in
    let known = c.args.known.now in
    let names = entries_after_update known.cmnd c.enter_names_of_definitions-in-Cmnd.new.names in
    let comes : IsEntryOutcome c.enter_names_of_definitions-in-Cmnd.result names (entries_with_definitions Cmnd c.args.line 0 (entries_of_definitions Cmnd before) defs) =
    subst (λ es. IsEntryOutcome c.enter_names_of_definitions-in-Cmnd.result names (entries_with_definitions Cmnd c.args.line 0 es defs)) (indexed Cmnd) c.enter_names_of_definitions-in-Cmnd.ensures in
    subst (λ (n : Node). IsIndexEntryOutcome c.enter_names_of_definitions-in-Cmnd.result (index_after_update known (record { user = c.args.self.now.user; runas = c.args.self.now.runas; host = c.args.self.now.host; cmnd = c.enter_names_of_definitions-in-Cmnd.new.names })) before (definitions_in_line c.args.line n))
    (sym (ap node_of_view c.in-Alias.is ∙ ap (λ kind. Alias kind defs) c.in-Cmnd.is))
    (entry_outcome_is_index_entry_outcome Cmnd c.args.line before defs c.enter_names_of_definitions-in-Cmnd.result names _ comes (λ new. entries_of_four_kinds_are_index _ _
    (other_kind_keeps_its_entries User Cmnd c.args.line before defs (entries_after_update known.user c.args.self.now.user) refl (indexed User))
    (other_kind_keeps_its_entries Runas Cmnd c.args.line before defs (entries_after_update known.runas c.args.self.now.runas) refl (indexed Runas))
    (other_kind_keeps_its_entries Host Cmnd c.args.line before defs (entries_after_update known.host c.args.self.now.host) refl (indexed Host))
    new))
