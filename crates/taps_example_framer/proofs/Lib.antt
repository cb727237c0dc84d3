mod PacketLaws
