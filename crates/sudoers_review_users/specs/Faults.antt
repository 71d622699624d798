-- Why policies are not compared for users.
use Rattle.std.specs.Prelude.{◌≡◌, ◌⊎◌, ℕ, List, Err}
use Rattle.sudoers_check.specs.Chain.{ListHasElement}
use Rattle.sudoers_list_people.specs.declared.fault.WhoFault.{WhoFault}
use Rattle.sudoers_list_people.specs.declared.fault.WhoFault.TheVariants as people
use Rattle.sudoers_list_people.specs.People.{People}
use Rattle.sudoers_list_people.specs.Person.{who_or_who_fault}
use Rattle.sudoers_review.specs.Faults.{IsMemoryOrSizeFault}
use Rattle.sudoers_review.specs.declared.compare_fault.CompareFault.{CompareFault}
use Rattle.sudoers_review_users.specs.declared.users_fault.UserChangesFault.{UserChangesFault}
use Rattle.sudoers_review_users.specs.declared.users_fault.UserChangesFault.TheVariants.{Compare, Who}

-- memory ran out, or something is too large
abbrev pub IsMemoryOrSizeFaultForUsers : UserChangesFault → Type 0
IsMemoryOrSizeFaultForUsers fault = (fault ≡ Who people.NoMemory) ⊎ ((why : CompareFault) × (fault ≡ Compare why) × IsMemoryOrSizeFault why)

-- the name is that of no user, or the interfaces are in no form of one
abbrev pub IsFaultOfNamedUser : People → List ℕ → List ℕ → List ℕ → UserChangesFault → Type 0
IsFaultOfNamedUser people host interfaces name fault = (why : WhoFault) × (fault ≡ Who why) × (who_or_who_fault people name host interfaces ≡ Err why)

-- so it is of one of the names
abbrev pub IsFaultOfNamedUsers : People → List ℕ → List ℕ → List (List ℕ) → UserChangesFault → Type 0
IsFaultOfNamedUsers people host interfaces names fault = (name : List ℕ) × ListHasElement names name × IsFaultOfNamedUser people host interfaces name fault
