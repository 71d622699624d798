-- What is printed of all users who are asked about.
use Rattle.std.specs.Prelude.{◌≡◌, ℕ, List, Ok}
use Rattle.sudoers_tree.specs.Load.{LoadedPolicy}
use Rattle.sudoers_match_member.specs.declared.people_and_commands.Who.{Who}
use Rattle.sudoers_list_people.specs.People.{People}
use Rattle.sudoers_list_people.specs.Person.{who_or_who_fault}
use Rattle.sudoers_review_users.specs.UserChanges.{AreLinesOfItems, IsUserChangesText}

-- The text is that of the user with this name, on this host, at this moment.
abbrev pub IsTextOfNamedUser : LoadedPolicy → LoadedPolicy → ℕ → People → List ℕ → List ℕ → List ℕ → List ℕ → Type 0
IsTextOfNamedUser old new now people host interfaces name text =
    (who : Who) × (who_or_who_fault people name host interfaces ≡ Ok who) × IsUserChangesText old new now name who text

-- The text has that of each of these users, in their order.
abbrev pub IsTextOfNamedUsers : LoadedPolicy → LoadedPolicy → ℕ → People → List ℕ → List ℕ → List (List ℕ) → List ℕ → Type 0
IsTextOfNamedUsers old new now people host interfaces names text = AreLinesOfItems (IsTextOfNamedUser old new now people host interfaces) names text
