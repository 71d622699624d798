use Rattle.sudoers_match_list.proofs.Common.{Atom, Bool, IfOk, IsValidVerdictCache, Kind, subst}
use Rattle.sudoers_match_list.proofs.acyclic.AcyclicWalk.make_verdict_cache.Goals as goal

pub returns : goal.returns
returns c =
    subst (λ lines. IfOk c.new.result (λ verdicts. (kind : Kind) (test : Atom → Bool) → IsValidVerdictCache kind lines test verdicts)) c.self.view_is c.new.ensures
