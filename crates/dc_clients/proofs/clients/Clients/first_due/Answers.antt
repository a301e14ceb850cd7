use Rattle.dc_clients.specs.View.{machine_of}
use Rattle.dc_clients.proofs.ClockLemmas.{due_connection, due_query, due_query_first, due_connection_first}
use Rattle.dc_clients.proofs.clients.Clients.first_due.Goals as goal

pub returns-in_default : goal.returns-in_default
returns-in_default g c =
    due_connection (machine_of g.S.Store.cache c.args.self.now) c.earliest.result c.first_idle.result c.map.result c.earliest.ensures.place c.in_default.is
    c.first_idle.ensures.first c.first_idle.ensures.place c.map.ensures.cases

pub returns-in_default-first_idle : goal.returns-in_default-first_idle
returns-in_default-first_idle g c =
    due_query (machine_of g.S.Store.cache c.args.self.now) c.earliest.result c.first_idle-2.result c.in-Some.query c.earliest.ensures.place c.in-Some.is
    c.first_idle-2.ensures.first c.in_default-first_idle.is

pub returns-then-deadline : goal.returns-then-deadline
returns-then-deadline g c =
    due_query_first (machine_of g.S.Store.cache c.args.self.now) c.earliest.result c.first_idle-2.result c.in-Some.query c.in-Some-first_idle.connection
    c.deadline.result c.deadline-2.result c.earliest.ensures.place c.in-Some.is c.first_idle-2.ensures.first c.in-Some-first_idle.is
    c.deadline.ensures c.deadline-2.ensures c.if-deadline.true

pub returns-else-deadline : goal.returns-else-deadline
returns-else-deadline g c =
    due_connection_first (machine_of g.S.Store.cache c.args.self.now) c.earliest.result c.first_idle-2.result c.in-Some.query c.in-Some-first_idle.connection
    c.deadline.result c.deadline-2.result c.earliest.ensures.place c.in-Some.is c.first_idle-2.ensures.first c.in-Some-first_idle.is c.in-Some-first_idle.ensures.place
    c.deadline.ensures c.deadline-2.ensures c.if-deadline.false
