pub mod FrameLines
pub mod HearingEnds
pub mod UnframeLines
