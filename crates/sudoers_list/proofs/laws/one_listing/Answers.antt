use Rattle.std.proofs.Common.{List, ℕ, sym, ap₂, ◌∙◌}
use Rattle.sudoers_match.specs.declared.matching_host_groups.HostGroupPlace.{HostGroupPlace}
use Rattle.sudoers_list.specs.Listing.{listing_text, host_groups_at_places}
use Rattle.sudoers_list.proofs.laws.one_listing.Goals as goal

pub returns : goal.returns
returns c = λ lines who text other a b.
    a.says
    ∙ ap₂ (λ (default : List ℕ) (places : List HostGroupPlace). listing_text who.user.name who.long_host default (host_groups_at_places lines places))
    (c.one_runas_default.ensures lines who a.default b.default a.is_default b.is_default)
    (c.one_list_of_host_groups.ensures lines who a.places b.places a.are_all b.are_all)
    ∙ sym b.says
