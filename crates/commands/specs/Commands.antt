-- The closed list of commands. Assumes nothing.
use Rattle.std.specs.Prelude.{ℕ, cond, Some, None, Option, ◌==◌}
use Rattle.commands.specs.declared.command.Command.{Command}
use Rattle.commands.specs.declared.command.Command.TheVariants.{SessionRequest, SessionStart, TerminateRequest, TerminateResponse, ManageKeysRequest, ManageKeysResponse}

abbrev pub command_number : Command → ℕ
command_number SessionRequest = 0x10
command_number SessionStart = 0x11
command_number TerminateRequest = 0x30
command_number TerminateResponse = 0x31
command_number ManageKeysRequest = 0x40
command_number ManageKeysResponse = 0x41

abbrev pub command_of : ℕ → Option Command
command_of n =
    cond (n == 0x10) (Some SessionRequest) (cond (n == 0x11) (Some SessionStart) (cond (n == 0x30) (Some TerminateRequest)
    (cond (n == 0x31) (Some TerminateResponse) (cond (n == 0x40) (Some ManageKeysRequest) (cond (n == 0x41) (Some ManageKeysResponse) None)))))
