-- A device of the proof, which no public contract cites: what is gathered of things one after another.
use Rattle.std.specs.Prelude.{◌≡◌, ℕ, Bool, true, false, List, ◌++◌, drop, take, map, Option}
use Rattle.sudoers_grammar.specs.Node.{Scope, Param}
use Rattle.sudoers_match_member.specs.declared.people_and_commands.Who.{Who}
use Rattle.sudoers_match.specs.Default.{IsScopeForUserOnHost, setting_with_scope, runas_defaults_in_params, runas_defaults_of_lines, runas_name_or_root}
use Rattle.sudoers_match.specs.Last.{IsLastItemWith}
use Rattle.std.specs.Option.{option_map}
use Rattle.sudoers_tree.specs.Line.{Line}
use Rattle.sudoers_match.specs.Specs.{IsConcatenationOfParts}

-- More was added, which is that of the things before this one.
pub record AddsPartsBeforeIndex {X Y : Type 0} (Part : ℕ → X → List Y → Type 0) (xs : List X) (i : ℕ) (old new : List Y) : Type 0 where
  pub added : List Y
  pub are : new ≡ old ++ added
  pub joined : (rest : List Y) → IsConcatenationOfParts Part i (drop i xs) rest → IsConcatenationOfParts Part 0 xs (added ++ rest)

-- More was added, which is that of these things.
pub record AddsAllParts {X Y : Type 0} (Part : ℕ → X → List Y → Type 0) (xs : List X) (old new : List Y) : Type 0 where
  pub added : List Y
  pub are : new ≡ old ++ added
  pub joined : IsConcatenationOfParts Part 0 xs added

-- The scope allows, or it does not.
abbrev pub DecidesWhetherScopeApplies : List Line → Who → Option Scope → Bool → Type 0
DecidesWhetherScopeApplies lines who scope true = IsScopeForUserOnHost lines who scope
DecidesWhetherScopeApplies lines who scope false = IsScopeForUserOnHost lines who scope → ⊥

-- It is the last setting of runas_default in a Defaults line, if the line is for this user on this host.
abbrev pub IsLastRunasDefaultOfLine : List Line → Who → Option Scope → List Param → Option (List ℕ) → Type 0
IsLastRunasDefaultOfLine lines who scope params latest =
    IsLastItemWith (λ (setting : Option Scope × List ℕ). IsScopeForUserOnHost lines who setting.0) (map (setting_with_scope scope) (runas_defaults_in_params params)) (option_map (setting_with_scope scope) latest)

-- The name is that of the last setting that counts in the lines before this one.
pub record IsRunasDefaultOfLinesBefore (lines : List Line) (who : Who) (all : List Line) (i : ℕ) (name : List ℕ) : Type 0 where
  pub last : Option (Option Scope × List ℕ)
  pub is_last : IsLastItemWith (λ (setting : Option Scope × List ℕ). IsScopeForUserOnHost lines who setting.0) (runas_defaults_of_lines (take i all)) last
  pub says : name ≡ runas_name_or_root last
