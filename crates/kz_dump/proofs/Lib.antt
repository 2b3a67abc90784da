mod PlainLines
mod RenderedLines
