-- What `convert` writes as sudoers, by whether its checks pass.
use Rattle.std.proofs.Common.{◌≡◌, ℕ, Bool, true, false, List, Result, Ok, Err, refl}
use Rattle.std.specs.Prelude.{if◌then◌else◌}
use Rattle.sudoers_cvt_rules.specs.declared.fault.CvtFault.TheVariants.{Cycle, TooLarge}
use Rattle.sudoers_run.specs.declared.fault.LayerFault.{LayerFault}
use Rattle.sudoers_run.specs.declared.fault.LayerFault.TheVariants as layer

-- by whether the text is within the limits
abbrev pub text_or_too_large : Bool → List ℕ → Result (List ℕ) LayerFault
text_or_too_large b text = if b then Ok text else Err (layer.Convert TooLarge)

pub ok_text_is_within_limits : (b : Bool) (text out : List ℕ) → text_or_too_large b text ≡ Ok out → (b ≡ true) × (out ≡ text)
ok_text_is_within_limits true text out e = (refl, let two : Result.Ok text ≡ Result.Ok out = e in cc)
ok_text_is_within_limits false text out e = absurd cc

-- by whether an alias is cyclic, and whether there are too many members, too
abbrev pub text_or_cycle_or_too_large : Bool → Bool → Bool → List ℕ → Result (List ℕ) LayerFault
text_or_cycle_or_too_large round many b text = if round then Err (layer.Convert Cycle) else if many then Err (layer.Convert TooLarge) else text_or_too_large b text

pub ok_text_has_no_cycle_and_fits : (round many b : Bool) (text out : List ℕ) → text_or_cycle_or_too_large round many b text ≡ Ok out → (round ≡ false) × (b ≡ true) × (out ≡ text)
ok_text_has_no_cycle_and_fits false false b text out e = let found = ok_text_is_within_limits b text out e in (refl, found.0, found.1)
ok_text_has_no_cycle_and_fits round many b text out e = absurd cc
