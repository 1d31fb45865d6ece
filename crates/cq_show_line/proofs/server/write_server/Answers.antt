-- One member after the other.
use Rattle.std.proofs.lemmas.Result.{on_ok_weaker}
use Rattle.cq_show_line.proofs.server.write_server.Goals as goal

pub returns : goal.returns
returns g c = on_ok_weaker c.end_map.result (λ ends. (
  g.S.Serializer.written c.begin_map.new.self,
  c.in_ok-begin_map.ensures,
  (
    c.in_ok-write_number.ensures.0,
    g.S.Serializer.written c.write_number.new.out,
    c.in_ok-write_number.ensures.1,
    c.in_ok-write_number.ensures.2,
    (
      c.in_ok-write_truth.ensures.0,
      g.S.Serializer.written c.write_truth.new.out,
      c.in_ok-write_truth.ensures.1,
      c.in_ok-write_truth.ensures.2,
      (
        c.in_ok-write_number-2.ensures.0,
        g.S.Serializer.written c.write_number-2.new.out,
        c.in_ok-write_number-2.ensures.1,
        c.in_ok-write_number-2.ensures.2,
        (
          c.in_ok-write_truth-2.ensures.0,
          g.S.Serializer.written c.write_truth-2.new.out,
          c.in_ok-write_truth-2.ensures.1,
          c.in_ok-write_truth-2.ensures.2,
          (
            c.in_ok-write_truth-3.ensures.0,
            g.S.Serializer.written c.write_truth-3.new.out,
            c.in_ok-write_truth-3.ensures.1,
            c.in_ok-write_truth-3.ensures.2,
            (
              c.in_ok-write_truth-4.ensures.0,
              g.S.Serializer.written c.write_truth-4.new.out,
              c.in_ok-write_truth-4.ensures.1,
              c.in_ok-write_truth-4.ensures.2,
              (
                c.in_ok-write_id.ensures.0,
                g.S.Serializer.written c.write_id.new.out,
                c.in_ok-write_id.ensures.1,
                c.in_ok-write_id.ensures.2,
                ends,
              ),
            ),
          ),
        ),
      ),
    ),
  ),
)) c.end_map.ensures
