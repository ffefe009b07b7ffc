-- A ticket for a seat that no room has is bad; else its seat, which is a part of the room, is asked.
use Rattle.std.proofs.Common.{◌∙◌, ap, length}
use borrow.Author.Tests.{le-leb}
use Rattle.layout.proofs.Rooms.{seat-length}
use Rattle.centre.proofs.Submitted.{seat-missing, seat-there}
use Rattle.centre.proofs.submit.ticket_bad.Goals as goal

pub no_ticket-requires : goal.no_ticket-requires
no_ticket-requires c =
    ap length c.seat_in.ensures ∙ seat-length c.args.room.now c.args.ticket.seat c.requires c.if-ticket-ge-SEATS.false

pub returns-then-ticket-ge-SEATS : goal.returns-then-ticket-ge-SEATS
returns-then-ticket-ge-SEATS c =
    le-leb _ _ c.if-ticket-ge-SEATS.true ∙ seat-missing c.args.ticket c.args.room.now c.if-ticket-ge-SEATS.true

pub returns-else-ticket-ge-SEATS : goal.returns-else-ticket-ge-SEATS
returns-else-ticket-ge-SEATS c =
    seat-there c.args.ticket c.args.room.now c.if-ticket-ge-SEATS.false _ c.seat_in.ensures c.no_ticket.result c.no_ticket.ensures
