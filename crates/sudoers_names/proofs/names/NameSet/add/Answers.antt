use Rattle.std.proofs.Common.{◌≡◌, ◌∙◌, ◌∷◌, ◌++◌, [], not, ap, map, ℕ, List, bytes_eq, if◌then◌else◌}
use Rattle.std.specs.List.{list_any}
use Rattle.sudoers_names.proofs.Keys.{any_by_key_is_any_of_keys, keys_after_adding_are_keys_with_name}
use Rattle.sudoers_names.proofs.names.NameSet.add.Goals as goal

pub returns-clause-new : goal.returns-clause-new
returns-clause-new c =
    let made = c.in_ok-name.name in
    let bytes : made.items ≡ c.args.name.now = c.in_ok-name.ensures.items in
    c.in_ok-insert.ensures.added
    ∙ ap not (any_by_key_is_any_of_keys (λ k. k.items) (bytes_eq made.items) c.self.inside.names.keys ∙ ap (λ n. list_any (bytes_eq n) (map (λ k. k.items) c.self.inside.names.keys)) bytes
    ∙ ap (list_any (bytes_eq c.args.name.now)) c.self.view_is)

pub returns-clause-added : goal.returns-clause-added
returns-clause-added c =
    let made = c.in_ok-name.name in
    let bytes : made.items ≡ c.args.name.now = c.in_ok-name.ensures.items in
    ap (map (λ k. k.items)) c.in_ok-insert.ensures.keys
    ∙ keys_after_adding_are_keys_with_name (λ k. k.items) c.self.inside.names.keys made
    ∙ ap (λ (keys : List (List ℕ)). if list_any (bytes_eq made.items) keys then keys else keys ++ made.items ∷ []) c.self.view_is
    ∙ ap (λ (n : List ℕ). if list_any (bytes_eq n) c.args.self.now then c.args.self.now else c.args.self.now ++ n ∷ []) bytes
