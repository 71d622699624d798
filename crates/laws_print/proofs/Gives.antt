-- What an answer gives, and a choice between two.
use Rattle.laws_print.proofs.Common.{Bool, true, false, if◌then◌else◌, Option, IfSome, Atom}

-- the answer, if there is one, is such an atom
abbrev pub GivesOnlySuchAtom : (Atom → Type 0) → Option Atom → Type 0
GivesOnlySuchAtom P o = IfSome o P

pub property_of_both_holds_for_choice : {X : Type 0} → (P : X → Type 0) (t : Bool) (x y : X) → P x → P y → P (if t then x else y)
property_of_both_holds_for_choice P true x y px py = px
property_of_both_holds_for_choice P false x y px py = py
