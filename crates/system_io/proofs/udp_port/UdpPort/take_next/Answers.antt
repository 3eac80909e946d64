use Rattle.std.proofs.Common.{◌∙◌, ◌≤◌, refl, sym, take, arith}
use Rattle.std.proofs.lemmas.List.{take-take}
use Rattle.system_io.proofs.udp_port.UdpPort.take_next.Goals as goal

pub returns-in-Ok-clause-hears : goal.returns-in-Ok-clause-hears
returns-in-Ok-clause-hears g c =
    let fits = c.passed_on.ensures.fits in
    let within : c.passed_on.result ≤ c.in-Ok.length = omega arith in
    record {
      from = c.in-Ok.from;
      datagram = take c.in-Ok.length c.receive.new.buffer;
      before = 0;
      calls = c.in-Ok.ensures.made;
      is = sym (take-take c.passed_on.result c.in-Ok.length c.receive.new.buffer within) ∙ c.passed_on.ensures.is;
      sender = refl;
      to = refl;
    }
