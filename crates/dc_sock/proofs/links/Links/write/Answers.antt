use Rattle.std.proofs.Common.{◌≡◌, ◌∙◌, ap, sym, subst, refl, inr, Some, IsSome}
use Rattle.slab.specs.Slab.{Slab, get, Updates, with_value}
use Rattle.slab.proofs.SlabLemmas.{Updates-with_value}
use Rattle.dc_sock.specs.declared.link.Link.{Link}
use Rattle.dc_sock.specs.LinkCalls.{write_calls, written_way}
use Rattle.dc_sock.specs.Links.{link_socket}
use Rattle.dc_sock.proofs.links.Links.write.Goals as goal

pub returns-in-Some-get_mut-clause-writes : goal.returns-in-Some-get_mut-clause-writes
returns-in-Some-get_mut-clause-writes g c =
    let w = c.write-way.ensures in
    let s : c.token_of-socket.result ≡ link_socket c.in-Some.key = c.token_of-socket.ensures in
    let at : get c.args.self.now.links c.in-Some.key ≡ Some c.in-Some.link = c.in-Some.ensures.found in
    let it : Some c.in-Some-get_mut.link.now ≡ get c.args.self.now.links c.in-Some.key = rw c.in-Some-get_mut.is at c.get_mut.ensures.value in
    let same : c.in-Some-get_mut.link.now ≡ c.in-Some.link = (let p = it ∙ at in cc) in
    let old : Slab Link = c.args.self.now.links in
    let new : Slab Link = with_value old c.in-Some.key (record c.in-Some-get_mut.link.now { way = c.write-way.result }) in
    let put : Updates old new c.in-Some.key (Some (record c.in-Some-get_mut.link.now { way = c.write-way.result })) = Updates-with_value old c.in-Some.key _ (subst IsSome (sym at) refl) in
    let updates : Updates old new c.in-Some.key (Some (record c.in-Some.link { way = written_way c.args.bytes.now c.in-Some.link.way w.0 })) =
    subst (λ x. Updates old new c.in-Some.key (Some x)) (ap (λ (x : Link). record x { way = c.write-way.result }) same ∙ ap (λ x. record c.in-Some.link { way = x }) w.1.1) put in (
      write_calls (link_socket c.in-Some.key) c.args.bytes.now c.in-Some.link.way w.0,
      (rw s at w.1.0, inr (c.in-Some.key, c.in-Some.link, w.0, (at, (c.in-Some.ensures.number, (refl, (updates, rw s at c.mark.ensures)))))),
    )
