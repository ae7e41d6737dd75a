-- What an accepted message says and orders. Assumes nothing.
use Rattle.std.specs.Prelude.{ℕ, ◌+◌, List, Some, None, Option}
use Rattle.std.specs.List.{between}
use Rattle.wire.specs.declared.id.SessionId.{SessionId}
use Rattle.wire.specs.declared.parties.Plane.{Plane}
use Rattle.wire.specs.declared.parties.Plane.TheVariants.{Control, User}
use Rattle.message.specs.declared.open.Opened.{Opened}
use Rattle.commands.specs.declared.request.Request.{Request}
use Rattle.commands.specs.Requests.{request_in}
use Rattle.endpoint.specs.declared.order.Order.{Order}
use Rattle.endpoint.specs.declared.order.Heard.{Heard}

abbrev pub order_of : SessionId → Option Request → Option Order
order_of id None = None
order_of id (Some r) = Some (record { id = id; request = r })

-- only a control message brings an order
abbrev pub order_in : Plane → SessionId → List ℕ → Option Order
order_in Control id content = order_of id (request_in content)
order_in User id content = None

-- the content is read from the clear octets
abbrev pub heard_of : Opened → List ℕ → Heard
heard_of o clear = record {
  header = o.header;
  place = o.place;
  length = o.length;
  order = order_in o.header.plane o.header.id (between o.place (o.place + o.length) clear);
}
