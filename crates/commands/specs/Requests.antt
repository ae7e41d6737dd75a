-- What a request asks for. Assumes nothing.
use Rattle.std.specs.Prelude.{ℕ, ◌/◌, ◌%◌, cond, ◌&&◌, List, length, drop, Some, None, Option, ◌==◌, nat_le, slice_index}
use Rattle.keys.specs.declared.id.KeyId.{KeyId}
use Rattle.keys.specs.Ids.{key_of}
use Rattle.commands.specs.declared.command.Command.{Command}
use Rattle.commands.specs.declared.command.Command.TheVariants.{SessionRequest, SessionStart, TerminateRequest, TerminateResponse, ManageKeysRequest, ManageKeysResponse}
use Rattle.commands.specs.declared.request.KeyAction.{KeyAction}
use Rattle.commands.specs.declared.request.KeyAction.TheVariants as action
use Rattle.commands.specs.declared.request.Management.{Management}
use Rattle.commands.specs.declared.request.Request.{Request}
use Rattle.commands.specs.declared.request.Request.TheVariants.{Terminate, Add, Update, Delete, Senseless}
use Rattle.commands.specs.Commands.{command_of}

-- ---- Key Management: an option of tag 9 and length 1

abbrev pub action_of : ℕ → Option KeyAction
action_of bits = cond (bits == 1) (Some action.Add) (cond (bits == 2) (Some action.Delete) (cond (bits == 3) (Some action.Update) None))

abbrev pub managed : Option KeyAction → Option KeyId → Option Management
managed None k = None
managed (Some a) None = None
managed (Some a) (Some k) = Some (record { action = a; key = k })

-- from the top: two action bits, three zero bits, a Key ID on three bits
abbrev pub management_in : ℕ → Option Management
management_in octet = cond (octet / 8 % 8 == 0) (managed (action_of (octet / 64)) (key_of (octet % 8))) None

-- ---- Key Agreement: an option of tag 5 and length 36, and nothing behind it

-- from the top of its first octet: a confirm bit, four zero bits, a Key ID on three bits
abbrev pub agreement_in : List ℕ → Option KeyId
agreement_in options =
    cond (length options == 38 && (slice_index options 0 == 5 && (slice_index options 1 == 36 && slice_index options 2 / 8 % 16 == 0)))
    (key_of (slice_index options 2 % 8)) None

-- ---- requests

abbrev pub added : Option KeyId → Request
added None = Senseless
added (Some new) = Add new

abbrev pub updated : KeyId → Option KeyId → Request
updated old None = Senseless
updated old (Some new) = Update new old

-- what Key Management asks for, given the options behind it
abbrev pub asked_by : KeyAction → KeyId → List ℕ → Request
asked_by action.Add k rest = added (agreement_in rest)
asked_by action.Delete k rest = cond (length rest == 0) (Delete k) Senseless
asked_by action.Update k rest = updated k (agreement_in rest)

abbrev pub asked : Option Management → List ℕ → Request
asked None rest = Senseless
asked (Some m) rest = asked_by m.action m.key rest

abbrev pub key_request : List ℕ → Request
key_request options =
    cond (nat_le 3 (length options) && (slice_index options 0 == 9 && slice_index options 1 == 1))
    (asked (management_in (slice_index options 2)) (drop 3 options)) Senseless

-- only these two requests ask for something to be done
abbrev pub requested : Option Command → List ℕ → Option Request
requested None options = None
requested (Some SessionRequest) options = None
requested (Some SessionStart) options = None
requested (Some TerminateRequest) options = Some Terminate
requested (Some TerminateResponse) options = None
requested (Some ManageKeysRequest) options = Some (key_request options)
requested (Some ManageKeysResponse) options = None

-- a content is a command octet and its options
abbrev pub request_in : List ℕ → Option Request
request_in content = cond (length content == 0) None (requested (command_of (slice_index content 0)) (drop 1 content))
