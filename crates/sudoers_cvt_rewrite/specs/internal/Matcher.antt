-- A device of the proof, which no public contract cites: what a search for members that match the values of a filter remembers.
use Rattle.std.specs.Prelude.{◌≡◌, ◌⊎◌, ◌<◌, ◌||◌, ℕ, Bool, true, false, List, length, Option, Some, slice_get}
use Rattle.std.specs.List.{list_any}
use Rattle.std.specs.Option.{is_some}
use Rattle.sudoers_grammar.specs.declared.node.Kind.{Kind}
use Rattle.sudoers_grammar.specs.declared.node.Kind.TheVariants.{User, Host}
use Rattle.sudoers_grammar.specs.declared.node.Atom.{Atom}
use Rattle.sudoers_grammar.specs.Node.{Member}
use Rattle.sudoers_tree.specs.Line.{Line}
use Rattle.sudoers_match_list.specs.declared.verdict.MemberHit.{MemberHit}
use Rattle.sudoers_match_list.specs.declared.alias_verdicts.AliasVerdictCache.{AliasVerdictCache}
use Rattle.sudoers_match_list.specs.Search.{IsValidVerdictCache}
use Rattle.sudoers_cvt_rewrite.specs.declared.filter.Filter.{Filter}
use Rattle.sudoers_cvt_rewrite.specs.declared.filter_text.FilterKey.{FilterKey}
use Rattle.sudoers_cvt_rewrite.specs.declared.filter_text.FilterKey.TheVariants as key
use Rattle.sudoers_cvt_rewrite.specs.declared.matching.FilterMatcher.{FilterMatcher}
use Rattle.sudoers_cvt_rewrite.specs.declared.values_matcher.ValuesMatcher.{ValuesMatcher}
use Rattle.sudoers_cvt_rewrite.specs.internal.SameNames.{AreSameNamesIgnoringCase}
use Rattle.sudoers_cvt_rewrite.specs.internal.Values.{is_atom_matching_any_value, is_atom_matching_value}
use Rattle.sudoers_cvt_rewrite.specs.Filter.{is_atom_matching_user_name, is_atom_matching_group_name, is_atom_matching_host_name, is_allowing_hit, last_hit_in_expanded_list}

-- Each of the verdicts serves for the value at its place. There may be fewer than values.
abbrev pub AreValidVerdictCaches : {X : Type 0} → Kind → List Line → (X → Atom → Bool) → List X → List AliasVerdictCache → Type 0
AreValidVerdictCaches {X} k lines test values verdicts = (n : ℕ) (value : X) (of_value : AliasVerdictCache) → slice_get values n ≡ Some value → slice_get verdicts n ≡ Some of_value
    → IsValidVerdictCache k lines (test value) of_value

-- The verdicts serve for any kind and any test.
abbrev pub IsFreshVerdictCache : List Line → AliasVerdictCache → Type 0
IsFreshVerdictCache lines verdicts = (k : Kind) (test : Atom → Bool) → IsValidVerdictCache k lines test verdicts

-- There are verdicts at the place, and those that are new serve for anything.
pub record HasVerdictCacheAt (lines : List Line) (n : ℕ) (old new : List AliasVerdictCache) : Type 0 where
  pub within : n < length new
  pub each : (i : ℕ) (verdicts : AliasVerdictCache) → slice_get new i ≡ Some verdicts → (slice_get old i ≡ Some verdicts) ⊎ IsFreshVerdictCache lines verdicts

-- The verdicts of any of the values and those of each serve for lists of this kind.
pub record AreCachesOfValuesValid (k : Kind) (lines : List Line) (m : ValuesMatcher) : Type 0 where
  pub any : IsValidVerdictCache k lines (is_atom_matching_any_value m.values) m.any
  pub each : AreValidVerdictCaches k lines (is_atom_matching_value m.values.key) m.values.names.items m.each.items

-- It serves for lists of this kind and for these values.
pub record IsValidValuesMatcher (k : Kind) (lines : List Line) (key : FilterKey) (values : List (List ℕ)) (m : ValuesMatcher) : Type 0 where
  pub key_is : m.values.key ≡ key
  pub same : AreSameNamesIgnoringCase m.values.names.items values
  pub caches : AreCachesOfValuesValid k lines m

-- what the last matching member says is wanted: that it allows, or that there is one
abbrev pub is_hit_any_or_allowing : Bool → Option MemberHit → Bool
is_hit_any_or_allowing true hit = is_allowing_hit hit
is_hit_any_or_allowing false hit = is_some hit

-- Of one of the values the list says what is wanted.
abbrev pub is_any_value_matched_or_allowed : {X : Type 0} → Bool → List Line → Kind → (X → Atom → Bool) → List X → List Member → Bool
is_any_value_matched_or_allowed allowing lines k test values ms = list_any (λ value. is_hit_any_or_allowing allowing (last_hit_in_expanded_list lines k (test value) ms)) values

abbrev pub is_filter_user_matched_or_allowed : Bool → List Line → Filter → List Member → Bool
is_filter_user_matched_or_allowed allowing lines f ms = is_any_value_matched_or_allowed allowing lines User is_atom_matching_user_name f.users ms || is_any_value_matched_or_allowed allowing lines User is_atom_matching_group_name f.groups ms

abbrev pub is_filter_host_matched_or_allowed : Bool → List Line → Filter → List Member → Bool
is_filter_host_matched_or_allowed allowing lines f ms = is_any_value_matched_or_allowed allowing lines Host is_atom_matching_host_name f.hosts ms

-- It serves for lists of these lines and the values of the filter.
pub record IsValidFilterMatcher (lines : List Line) (f : Filter) (m : FilterMatcher) : Type 0 where
  pub users : IsValidValuesMatcher User lines key.User f.users m.users
  pub groups : IsValidValuesMatcher User lines key.Group f.groups m.groups
  pub hosts : IsValidValuesMatcher Host lines key.Host f.hosts m.hosts
