-- One member after the other.
use Rattle.std.proofs.lemmas.Result.{on_ok_weaker}
use Rattle.cq_show_line.specs.Lines.{shown_data}
use Rattle.cq_show_line.proofs.line.ToldSerialize.serialize.Goals as goal

pub returns : goal.returns
unfolding shown_data
returns g c = on_ok_weaker c.end_map.result (λ ends. (
  g.S.Serializer.written c.begin_map.new.self,
  c.in_ok-begin_map.ensures,
  (
    c.in_ok-write_chain_of.ensures.0,
    g.S.Serializer.written c.write_chain_of.new.out,
    c.in_ok-write_chain_of.ensures.1,
    c.in_ok-write_chain_of.ensures.2,
    (
      c.in_ok-write_server.ensures.0,
      g.S.Serializer.written c.write_server.new.out,
      c.in_ok-write_server.ensures.1,
      c.in_ok-write_server.ensures.2,
      (
        c.in_ok-write_text.ensures.0,
        g.S.Serializer.written c.write_text.new.out,
        c.in_ok-write_text.ensures.1,
        c.in_ok-write_text.ensures.2,
        (
          c.in_ok-write_truth.ensures.0,
          g.S.Serializer.written c.write_truth.new.out,
          c.in_ok-write_truth.ensures.1,
          c.in_ok-write_truth.ensures.2,
          (
            c.in_ok-write_servers_of.ensures.0,
            g.S.Serializer.written c.write_servers_of.new.out,
            c.in_ok-write_servers_of.ensures.1,
            c.in_ok-write_servers_of.ensures.2,
            (
              c.in_ok-write_ways_of.ensures.0,
              g.S.Serializer.written c.write_ways_of.new.out,
              c.in_ok-write_ways_of.ensures.1,
              c.in_ok-write_ways_of.ensures.2,
              ends,
            ),
          ),
        ),
      ),
    ),
  ),
)) c.end_map.ensures
