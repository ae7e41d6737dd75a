-- Planes and roles, as a suite is told of them. Assumes nothing.
use Rattle.std.specs.Prelude.{ℕ, List, codes}
use Rattle.wire.specs.declared.parties.Plane.{Plane}
use Rattle.wire.specs.declared.parties.Plane.TheVariants.{Control, User}
use Rattle.wire.specs.declared.parties.Role.{Role}
use Rattle.wire.specs.declared.parties.Role.TheVariants.{Logger, Service}

abbrev pub bearer_of : Plane → ℕ
bearer_of Control = 0
bearer_of User = 21

abbrev pub direction_of : Role → ℕ
direction_of Logger = 0
direction_of Service = 1

abbrev pub other_role : Role → Role
other_role Logger = Service
other_role Service = Logger

abbrev pub plane_name : Plane → List ℕ
plane_name Control = codes "control"
plane_name User = codes "user"
