use Rattle.sudoers_check.proofs.Common.{List, ap, bytes_eq, list_any, map, not, ℕ, ◌||◌, ◌∙◌, ◌≡◌}
use Rattle.sudoers_check.specs.internal.Seen.{key_of_kind_and_name}
use Rattle.sudoers_check.proofs.Keys.{key_test_is_over_mapped_keys, extended_set_has_old_or_added_key}
use Rattle.sudoers_check.proofs.seen_names.SeenAliasNames.add_alias_name.Goals as goal

pub returns-clause-new : goal.returns-clause-new
returns-clause-new c =
    let wanted : List ℕ = key_of_kind_and_name c.args.kind c.args.name.now in
    let made = c.in_ok-key.key in
    let bytes : made.items ≡ wanted = c.in_ok-key.ensures in
    c.in_ok-insert.ensures.added
    ∙ ap not (key_test_is_over_mapped_keys (λ k. k.items) made.items c.self.inside.keys.keys ∙ ap (λ n. list_any (bytes_eq n) (map (λ k. k.items) c.self.inside.keys.keys)) bytes
    ∙ ap (list_any (bytes_eq wanted)) c.self.view_is)

pub returns-clause-added : goal.returns-clause-added
returns-clause-added c = λ k other.
    let wanted : List ℕ = key_of_kind_and_name c.args.kind c.args.name.now in
    let made = c.in_ok-key.key in
    let bytes : made.items ≡ wanted = c.in_ok-key.ensures in
    ap (λ keys. list_any (bytes_eq (key_of_kind_and_name k other)) (map (λ x. x.items) keys)) c.in_ok-insert.ensures.keys
    ∙ extended_set_has_old_or_added_key (λ x. x.items) (key_of_kind_and_name k other) c.self.inside.keys.keys made
    ∙ ap (λ keys. list_any (bytes_eq (key_of_kind_and_name k other)) keys || bytes_eq (key_of_kind_and_name k other) made.items) c.self.view_is
    ∙ ap (λ n. list_any (bytes_eq (key_of_kind_and_name k other)) c.args.self.now || bytes_eq (key_of_kind_and_name k other) n) bytes
