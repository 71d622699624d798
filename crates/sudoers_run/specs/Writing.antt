-- What a command does with its writer.
use Rattle.std.specs.Prelude.{◌≡◌, ◌≢◌, ℕ, List, Option, Result, Err, IfErr}
use Rattle.std.specs.Io.KnownBytes.{Keeps}
use Rattle.sudoers_files.specs.Device.{IsCountHigherOrAtMaximum}
use Rattle.sudoers_run.specs.declared.fault.ToolFault.{ToolFault}
use Rattle.sudoers_run.specs.declared.fault.ToolFault.TheVariants.{Write}

-- What a call does with its writer. `Write` means that the count of failures rose, and without `Write` it did not. Before any other
-- fault nothing is written.
pub record IsWriterStateAfterCommand {A : Type 0} (result : Result A ToolFault) (failures failures-new : ℕ) (contents contents-new : Option (List ℕ)) : Type 0 where
  pub told : result ≡ Err Write → IsCountHigherOrAtMaximum failures failures-new
  pub well : result ≢ Err Write → failures-new ≡ failures
  pub untouched : IfErr result (λ fault. fault ≢ Write → Keeps contents contents-new)
