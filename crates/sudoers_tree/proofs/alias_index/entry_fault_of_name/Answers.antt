use Rattle.sudoers_tree.proofs.Common.{Duplicate, Kind, List, None, Place, Reserved, Some, TooMany, alias_limit_of_each_kind, ap, entries_after_update, fault_of_new_entry, if◌then◌else◌, is_reserved, is_some, length, nat_le}
use Rattle.sudoers_tree.proofs.Common.{place_of_named_entry, sym, true, ℕ, ◌∙◌, ◌≡◌}
use Rattle.sudoers_tree.proofs.alias_index.entry_fault_of_name.Goals as goal

reserved_first : (k : Kind) (es : List (List ℕ × Place)) (name : List ℕ) → is_reserved name ≡ true → Some (Reserved k name) ≡ fault_of_new_entry k es name
reserved_first k es name is =
    sym (ap (λ t. if t then Some (Reserved k name)
    else (if is_some (place_of_named_entry name es) then Some (Duplicate k name)
    else (if nat_le alias_limit_of_each_kind (length es) then Some (TooMany k) else None))) is)

pub returns-then-is_reserved-clause-is : goal.returns-then-is_reserved-clause-is
returns-then-is_reserved-clause-is c =
    ap (λ name. Some (Reserved c.args.kind name)) c.in_ok-name.ensures
    ∙ reserved_first c.args.kind (entries_after_update c.args.known.now c.args.names.now) c.args.name.now (sym c.is_reserved.ensures ∙ c.if-is_reserved.true)
