use Rattle.std.proofs.Common.{◌≡◌, ◌≤◌, ℕ, false, Bool, List, [], ◌∷◌, length, drop, take, Option, Some, None, arith, refl, ap, subst, ◌∙◌}
use Rattle.std.specs.Prelude.{IfSome}
use Rattle.memchr.specs.Find.{OccursAt, FindsNeedle}
use Rattle.sudoers_match_member.specs.declared.wildcards.GlobMode.{GlobMode}
use Rattle.sudoers_match_member.specs.Folded.{bytes_case_folded_if_wanted}
use Rattle.sudoers_match_member.specs.Wildcard.{items_of_pattern}
use Rattle.sudoers_match_member.specs.internal.Places.{DoesMatchFrom, DoesMatchFromNoneBefore}
use Rattle.sudoers_match_member.specs.internal.Run.{DoItemsMatch}
use Rattle.sudoers_match_member.proofs.Capitals.{byte_is_read_as_it_is_where_case_counts}
use Rattle.sudoers_match_member.proofs.Places.{BeginsWithPlainBytes, plain_bytes_stand_where_pattern_matches}
use Rattle.sudoers_match_member.proofs.place_search.find_plain_front.Goals as goal

bytes_are_read_as_they_are : (bytes : List ℕ) → bytes_case_folded_if_wanted false bytes ≡ bytes
bytes_are_read_as_they_are [] = refl
bytes_are_read_as_they_are (b ∷ bytes) = ap (λ c. c ∷ bytes_case_folded_if_wanted false bytes) (byte_is_read_as_it_is_where_case_counts b) ∙ ap (λ cs. b ∷ cs) (bytes_are_read_as_they_are bytes)

match_has_needle : (mode : GlobMode) (lower : Bool) (pattern text : List ℕ) (count place : ℕ) → lower ≡ false → count ≤ length pattern → BeginsWithPlainBytes pattern count → place ≤ length text
    → DoesMatchFrom mode lower pattern text place → OccursAt text (take count pattern) place
match_has_needle mode lower pattern text count place is h plain inside m =
    plain_bytes_stand_where_pattern_matches mode pattern text count place h plain inside
    (subst (λ xs. DoItemsMatch mode (items_of_pattern xs) (drop place text)) (ap (λ t. bytes_case_folded_if_wanted t pattern) is ∙ bytes_are_read_as_they_are pattern)
    (subst (λ xs. DoItemsMatch mode (items_of_pattern (bytes_case_folded_if_wanted lower pattern)) (drop place xs)) (ap (λ t. bytes_case_folded_if_wanted t text) is ∙ bytes_are_read_as_they_are text) m))

pub returns-clause-found : goal.returns-clause-found
returns-clause-found c =
    by c.find.result c.find.ensures
  where
    by : (found : Option ℕ) → FindsNeedle c.args.text.now (take c.count_plain_bytes.result c.args.pattern.now) 0 found
        → IfSome found (λ place. (mode : GlobMode) → DoesMatchFromNoneBefore mode c.args.lower c.args.pattern.now c.args.text.now place)
    by None is = tt
    by (Some place) is = λ mode k h m. is.0.before k (omega arith) h
        (match_has_needle mode c.args.lower c.args.pattern.now c.args.text.now c.count_plain_bytes.result k c.if-lower.false c.count_plain_bytes.ensures.within c.count_plain_bytes.ensures.plain (omega (arith, h, is.0.high)) m)

pub returns-clause-missing : goal.returns-clause-missing
returns-clause-missing c none mode place h m =
    subst (FindsNeedle c.args.text.now (take c.count_plain_bytes.result c.args.pattern.now) 0) none c.find.ensures place (omega arith) (omega (arith, h))
    (match_has_needle mode c.args.lower c.args.pattern.now c.args.text.now c.count_plain_bytes.result place c.if-lower.false c.count_plain_bytes.ensures.within c.count_plain_bytes.ensures.plain (omega (arith, h)) m)
