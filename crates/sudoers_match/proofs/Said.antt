-- What lists say.
use Rattle.sudoers_match.proofs.Common.{Allow, Atom, Bool, DecidesWhetherListAllows, IsLastHitOfList, IsListVerdict, Kind, Line, List, Member, MemberHit, Option, Verdict, false, subst, true, verdict_of_hit, ◌≡◌}

module _ (k : Kind) (lines : List Line) (test : Atom → Bool) (ms : List Member) where
  pub allowed : (hit : Option MemberHit) (v : Verdict) → IsLastHitOfList k lines test ms hit → v ≡ verdict_of_hit hit → v ≡ Allow → DecidesWhetherListAllows k lines test ms true
  allowed hit v l e a = subst (IsListVerdict k lines test ms) a (record { hit = hit; is_latest = l; says = e })

  pub not_allowed : ((verdict other : Verdict) → IsListVerdict k lines test ms verdict → IsListVerdict k lines test ms other → verdict ≡ other)
      → (hit : Option MemberHit) (v : Verdict) → IsLastHitOfList k lines test ms hit → v ≡ verdict_of_hit hit → (v ≡ Allow → ⊥) → DecidesWhetherListAllows k lines test ms false
  not_allowed one hit v l e other a = other (one v Allow (record { hit = hit; is_latest = l; says = e }) a)
